-- No words spell two setups.
use Rattle.std.proofs.Common.{◌≡◌, ◌∙◌, ℕ, List, ap, sym}
use Rattle.std.specs.Str.Parse.{digits_value}
use Rattle.script_run.specs.Script.{Size, SpellsSetup}

word_same : (a b : List ℕ) (m n : ℕ) → a ≡ b → m ≡ digits_value 10 a → n ≡ digits_value 10 b → m ≡ n
word_same a b m n same one other = one ∙ ap (digits_value 10) same ∙ sym other

-- no words spell two setups
pub one_setup : (words : List (List ℕ)) (one other : Size) → SpellsSetup words one → SpellsSetup words other → one ≡ other
one_setup words one other p q =
    let same = sym p.are ∙ q.are in
    let nodes : p.nodes ≡ q.nodes = cc in
    let servers : p.servers ≡ q.servers = cc in
    let target : p.target ≡ q.target = cc in
    let batch : p.batch ≡ q.batch = cc in
    let node_count = word_same p.nodes q.nodes one.nodes other.nodes nodes p.node_count.1 q.node_count.1 in
    let server_count = word_same p.servers q.servers one.servers other.servers servers p.server_count.1 q.server_count.1 in
    let target_size = word_same p.target q.target one.target other.target target p.target_size.1 q.target_size.1 in
    let batch_size = word_same p.batch q.batch one.batch other.batch batch p.batch_size.1 q.batch_size.1 in
    λ i. record { nodes = node_count i; servers = server_count i; target = target_size i; batch = batch_size i }
