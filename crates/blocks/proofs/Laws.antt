-- The two laws of records: what is read is spelled so, and what is spelled so is read.
use Rattle.std.proofs.Common.{◌≡◌, ◌≢◌, ℕ, zero, suc, ◌+◌, ◌*◌, ◌^◌, ◌<◌, ◌≤◌, true, false, List, [], ◌∷◌, ◌++◌, length, take, drop, Some, Result, Ok, Err, refl, sym, ap, subst, ◌∙◌, append_assoc, arith}
use Rattle.std.specs.List.{flat_map, AllByRecursion}
use Rattle.std.specs.Prelude.{nat_le, ◌==◌, not, IfOk, MatchResult}
use Rattle.std.proofs.Common.{eq-eqb}
use Rattle.std.proofs.lemmas.Bool.{and_parts, and_from, leb-true, le-leb, eqb-true, eqb-false, not-true}
use Rattle.std.proofs.lemmas.List.{length-append, length-take, take_at, take-append-drop}
use Rattle.std.specs.Int.{w32, to_be_bytes}
use Rattle.std.specs.Prelude.{slice_index}
use Rattle.std.proofs.lemmas.List.Concat.{flat_map-cons}
use Rattle.sha2.specs.Sha256.{sha256, digest_bytes, final_hash, initial_hash_256}
use Rattle.block_types.specs.declared.record.Nodes.{Nodes}
use Rattle.block_types.specs.declared.record.Version.{Version}
use Rattle.block_types.specs.declared.record.Version.TheVariants.{V1, V2}
use Rattle.block_types.specs.declared.record.Record.{Record}
use Rattle.block_types.specs.declared.record.Record.TheVariants.{Make, Append, Fence, Freeze, Seal, Fill, Manage}
use Rattle.block_types.specs.Limits.{is_within, are_nodes, IsBlock, IsGroup, AreNodes, IsTarget, groups_size}
use Rattle.block_types.specs.declared.fault.BlockFault.{BlockFault}
use Rattle.block_types.specs.declared.fault.BlockFault.TheVariants as faults
use Rattle.blocks.specs.Format.{Gives, ◌>>=◌, number_at, bytes_at, after, only_at}
use Rattle.blocks.specs.Record.{number, check, block, group, groups, nodes, body, spelling, IsInRange, Fits, Begins}
use Rattle.blocks.specs.Reading.{block_at, group_at, nodes_of, nodes_at, make_at, append_at, groups_at, fence_at, seal_at, is_filled, fill_at, make_record_at, append_record_at, fence_record_at, freeze_record_at, seal_record_at, fill_record_at, fields_at, body_at, record_at}
use Rattle.blocks.proofs.Formats.{IsBytes, IsBytes-after, IsBytes-take, bind_some, some_is, IsFormat, number1, number4, number8, length-number, within, within_again, bytes_takes, bytes_again, after_takes, after_again, pair_format, only_format, counted_format, whole_takes, whole_again}

-- ---- a block

block_format : (v : Version) → IsFormat (block v) (block_at v) IsBlock
unfolding block_at
block_format v = record {
  takes = λ bytes x rest fits e.
      let N = only_format (is_within 1 65536) (λ n. (1 ≤ n) × (n ≤ 65536)) (within 1 65536) (within_again 1 65536) number4 in
      let n = bind_some (only_at (is_within 1 65536) (number_at 4) bytes) (λ n. bytes_at n.0 n.1 >>= λ b. after (check v b.0) b.1 >>= λ r. Some (b.0, r)) (x, rest) e in
      let b = bind_some (bytes_at n.0.0 n.0.1) (λ b. after (check v b.0) b.1 >>= λ r. Some (b.0, r)) (x, rest) n.2 in
      let r = bind_some (after (check v b.0.0) b.0.1) (λ r. Some (b.0.0, r)) (x, rest) b.2 in
      let sn = N.takes bytes n.0.0 n.0.1 fits n.1 in
      let sb = bytes_takes n.0.0 n.0.1 b.0.0 b.0.1 b.1 in
      let sr = after_takes (check v b.0.0) b.0.1 r.0 r.1 in
      let parts : bytes ≡ number 4 n.0.0 ++ (b.0.0 ++ (check v b.0.0 ++ r.0)) = sn.0 ∙ ap (λ (l : List ℕ). number 4 n.0.0 ++ l) (sb.0 ∙ ap (λ (l : List ℕ). b.0.0 ++ l) sr) in
      let counted : bytes ≡ number 4 (length b.0.0) ++ (b.0.0 ++ (check v b.0.0 ++ r.0)) = subst (λ (k : ℕ). bytes ≡ number 4 k ++ (b.0.0 ++ (check v b.0.0 ++ r.0))) (sym sb.1) parts in
      let joined : bytes ≡ block v b.0.0 ++ r.0 = counted ∙ ap (λ (l : List ℕ). number 4 (length b.0.0) ++ l) (sym (append_assoc b.0.0 (check v b.0.0) r.0)) ∙ sym (append_assoc (number 4 (length b.0.0)) (b.0.0 ++ check v b.0.0) r.0) in
      let is : IsBlock b.0.0 = subst (λ (k : ℕ). (1 ≤ k) × (k ≤ 65536)) (sym sb.1) sn.1.1 in
      let made : List ℕ × List ℕ = (b.0.0, r.0) in
      subst (λ (y : List ℕ × List ℕ). (bytes ≡ block v y.0 ++ y.1) × IsBlock y.0) (some_is made (x, rest) r.2) (joined, is);
  again = λ x rest fits.
      let N = only_format (is_within 1 65536) (λ n. (1 ≤ n) × (n ≤ 65536)) (within 1 65536) (within_again 1 65536) number4 in
      let regrouped : block v x ++ rest ≡ number 4 (length x) ++ (x ++ (check v x ++ rest)) = append_assoc (number 4 (length x)) (x ++ check v x) rest ∙ ap (λ (l : List ℕ). number 4 (length x) ++ l) (append_assoc x (check v x) rest) in
      let lt : length x < 2 ^ 32 = omega (arith, fits.1) in
      ap (block_at v) regrouped ∙ rw (N.again (length x) (x ++ (check v x ++ rest)) (lt, fits), bytes_again x (check v x ++ rest), after_again (check v x) rest) refl;
}

group_format : (v : Version) → IsFormat (group v) (group_at v) IsGroup
unfolding group_at
group_format v =
    let N = only_format (is_within 1 64) (λ n. (1 ≤ n) × (n ≤ 64)) (within 1 64) (within_again 1 64) number1 in
    let counted = counted_format N (block_format v) in
    record {
      takes = λ bytes x rest fits e. let t = counted.takes bytes x rest fits e in (t.0, (t.1.0.1.0, t.1.0.1.1, t.1.1));
      again = λ x rest fits. counted.again x rest ((omega (arith, fits.1), (fits.0, fits.1)), fits.2);
    }

-- ---- three nodes

differ : (a b : ℕ) → not (a == b) ≡ true → a ≢ b
differ a b e = eqb-false _ _ (not-true (a == b) e)

differ_again : (a b : ℕ) → a ≢ b → not (a == b) ≡ true
differ_again a b ne = elim (a == b) as (λ t. a == b ≡ t → not t ≡ true) [ true ↦ λ is. absurd (ne (eqb-true _ _ is)) | false ↦ λ is. refl ] refl

pub nodes_sound : (n : Nodes) → are_nodes n ≡ true → AreNodes n
unfolding are_nodes
nodes_sound n e =
    let a = and_parts _ _ e in
    let b = and_parts _ _ a.0 in
    let c = and_parts _ _ b.0 in
    let d = and_parts _ _ c.0 in
    let f = and_parts _ _ d.0 in
    record {
      primary = within 1 12 n.primary f.0;
      second = within 1 12 n.second f.1;
      third = within 1 12 n.third d.1;
      distinct = (differ _ _ c.1, differ _ _ b.1, differ _ _ a.1);
    }

pub nodes_complete : (n : Nodes) → AreNodes n → are_nodes n ≡ true
unfolding are_nodes
nodes_complete n h =
    and_from _ _ (and_from _ _ (and_from _ _ (and_from _ _ (and_from _ _ (within_again 1 12 n.primary h.primary) (within_again 1 12 n.second h.second)) (within_again 1 12 n.third h.third)) (differ_again n.primary n.second h.distinct.0)) (differ_again n.primary n.third h.distinct.1)) (differ_again n.second n.third h.distinct.2)

any_nodes : IsFormat nodes nodes_of (λ n. Unit {0})
any_nodes = record { takes = nodes_take; again = λ x rest fits. refl }
  where
    nodes_take : (bytes : List ℕ) (x : Nodes) (rest : List ℕ) → IsBytes bytes → nodes_of bytes ≡ Some (x, rest) → (bytes ≡ nodes x ++ rest) × Unit {0}
    nodes_take [] x rest fits e = absurd cc
    nodes_take (a ∷ []) x rest fits e = absurd cc
    nodes_take (a ∷ b ∷ []) x rest fits e = absurd cc
    nodes_take (a ∷ b ∷ c ∷ more) x rest fits e =
        let made : Nodes × List ℕ = (record { primary = a; second = b; third = c }, more) in
        subst (λ (y : Nodes × List ℕ). (a ∷ b ∷ c ∷ more ≡ nodes y.0 ++ y.1) × Unit {0}) (some_is made (x, rest) e) (refl, tt)

nodes_format : IsFormat nodes nodes_at (λ n. Unit {0} × AreNodes n)
unfolding nodes_at
nodes_format = only_format are_nodes AreNodes nodes_sound nodes_complete any_nodes

-- ---- the kinds

make_format : IsFormat (λ x. number 8 x.0 ++ (number 8 x.1.0 ++ (number 4 x.1.1.0 ++ nodes x.1.1.1))) make_at (λ x. (x.0 < 2 ^ 64) × ((x.1.0 < 2 ^ 64) × (((x.1.1.0 < 2 ^ 32) × IsTarget x.1.1.0) × (Unit {0} × AreNodes x.1.1.1))))
unfolding make_at
make_format = pair_format number8 (pair_format number8 (pair_format (only_format (is_within 4096 16777216) IsTarget (within 4096 16777216) (within_again 4096 16777216) number4) nodes_format))

append_format : (v : Version) → IsFormat (λ x. number 8 x.0 ++ (number 4 x.1.0 ++ group v x.1.1)) (append_at v) (λ x. (x.0 < 2 ^ 64) × ((x.1.0 < 2 ^ 32) × IsGroup x.1.1))
unfolding append_at
append_format v = pair_format number8 (pair_format number4 (group_format v))

groups_format : (v : Version) → IsFormat (groups v) (groups_at v) (λ gs. ((length gs < 2 ^ 32) × (1 ≤ length gs)) × AllByRecursion IsGroup gs)
unfolding groups_at
groups_format v = counted_format (only_format (nat_le 1) (λ n. 1 ≤ n) (λ n e. leb-true _ _ e) (λ n h. le-leb _ _ h) number4) (group_format v)

fence_format : IsFormat (λ x. number 8 x.0 ++ number 8 x.1) fence_at (λ x. (x.0 < 2 ^ 64) × (x.1 < 2 ^ 64))
unfolding fence_at
fence_format = pair_format number8 number8

seal_format : IsFormat (λ x. number 8 x.0 ++ number 4 x.1) seal_at (λ x. (x.0 < 2 ^ 64) × (x.1 < 2 ^ 32))
unfolding seal_at
seal_format = pair_format number8 number4

abbrev FillFields : Type 0
FillFields = ℕ × (ℕ × (ℕ × List (List (List ℕ))))

fill_format : (v : Version) → IsFormat (λ x. number 8 x.0 ++ (number 4 x.1.0 ++ (number 4 x.1.1.0 ++ groups v x.1.1.1))) (fill_at v)
    (λ x. ((x.0 < 2 ^ 64) × ((x.1.0 < 2 ^ 32) × ((x.1.1.0 < 2 ^ 32) × (((length x.1.1.1 < 2 ^ 32) × (1 ≤ length x.1.1.1)) × AllByRecursion IsGroup x.1.1.1)))) × (x.1.0 + groups_size x.1.1.1 ≡ x.1.1.0))
unfolding fill_at
fill_format v = only_format is_filled (λ (x : FillFields). x.1.0 + groups_size x.1.1.1 ≡ x.1.1.0) (λ x e. eqb-true _ _ e) (λ x h. eq-eqb _ _ h) (pair_format number8 (pair_format number4 (pair_format number4 (groups_format v))))

fields_takes : (v : Version) (kind : ℕ) (fields : List ℕ) (r : Record) → IsBytes fields → fields_at v kind fields ≡ Some r → (kind ∷ fields ≡ body v r) × IsInRange r
unfolding fields_at make_record_at append_record_at fence_record_at freeze_record_at seal_record_at fill_record_at
fields_takes v zero fields r fits e = absurd cc
fields_takes v (suc zero) fields r fits e =
    let t = whole_takes make_format (λ x. Make x.0 x.1.0 x.1.1.0 x.1.1.1) fields r fits e in
    subst (λ (y : Record). (1 ∷ fields ≡ body v y) × IsInRange y) t.3 (ap (λ (l : List ℕ). 1 ∷ l) t.1, (t.2.0, t.2.1.0, t.2.1.1.0.1, t.2.1.1.1.1))
fields_takes v (suc (suc zero)) fields r fits e =
    let t = whole_takes (append_format v) (λ x. Append x.0 x.1.0 x.1.1) fields r fits e in
    subst (λ (y : Record). (2 ∷ fields ≡ body v y) × IsInRange y) t.3 (ap (λ (l : List ℕ). 2 ∷ l) t.1, (t.2.0, t.2.1.0, t.2.1.1))
fields_takes v (suc (suc (suc zero))) fields r fits e =
    let t = whole_takes fence_format (λ x. Fence x.0 x.1) fields r fits e in
    subst (λ (y : Record). (3 ∷ fields ≡ body v y) × IsInRange y) t.3 (ap (λ (l : List ℕ). 3 ∷ l) t.1, t.2)
fields_takes v (suc (suc (suc (suc zero)))) fields r fits e =
    let t = whole_takes number8 (λ x. Freeze x) fields r fits e in
    subst (λ (y : Record). (4 ∷ fields ≡ body v y) × IsInRange y) t.3 (ap (λ (l : List ℕ). 4 ∷ l) t.1, t.2)
fields_takes v (suc (suc (suc (suc (suc zero))))) fields r fits e =
    let t = whole_takes seal_format (λ x. Seal x.0 x.1) fields r fits e in
    subst (λ (y : Record). (5 ∷ fields ≡ body v y) × IsInRange y) t.3 (ap (λ (l : List ℕ). 5 ∷ l) t.1, t.2)
fields_takes v (suc (suc (suc (suc (suc (suc zero)))))) fields r fits e =
    let t = whole_takes (fill_format v) (λ x. Fill x.0 x.1.0 x.1.1.0 x.1.1.1) fields r fits e in
    let f = t.2.0 in
    subst (λ (y : Record). (6 ∷ fields ≡ body v y) × IsInRange y) t.3 (ap (λ (l : List ℕ). 6 ∷ l) t.1, (f.0, f.1.0, f.1.1.0, f.1.1.1.0.1, f.1.1.1.0.0, f.1.1.1.1, t.2.1))
fields_takes v (suc (suc (suc (suc (suc (suc (suc zero))))))) fields r fits e =
    subst (λ (y : Record). (7 ∷ fields ≡ body v y) × IsInRange y) (some_is (Manage fields) r e) (refl, tt)
fields_takes v (suc (suc (suc (suc (suc (suc (suc (suc k)))))))) fields r fits e = absurd cc

body_takes : (v : Version) (bytes : List ℕ) (r : Record) → IsBytes bytes → body_at v bytes ≡ Some r → (bytes ≡ body v r) × IsInRange r
unfolding body_at
body_takes v [] r fits e = absurd cc
body_takes v (kind ∷ fields) r fits e = fields_takes v kind fields r (IsBytes-after (kind ∷ []) fields fits) e

body_again : (v : Version) (r : Record) → IsInRange r → body_at v (body v r) ≡ Some r
unfolding body_at fields_at make_record_at append_record_at fence_record_at freeze_record_at seal_record_at fill_record_at
body_again v (Make e f t n) fits = whole_again make_format (λ x. Make x.0 x.1.0 x.1.1.0 x.1.1.1) (e, (f, (t, n))) (fits.0, (fits.1, ((omega (arith, fits.2.1), fits.2), (tt, fits.3))))
body_again v (Append e o g) fits = whole_again (append_format v) (λ x. Append x.0 x.1.0 x.1.1) (e, (o, g)) (fits.0, (fits.1, fits.2))
body_again v (Fence e g) fits = whole_again fence_format (λ x. Fence x.0 x.1) (e, g) fits
body_again v (Freeze e) fits = whole_again number8 (λ x. Freeze x) e fits
body_again v (Seal e l) fits = whole_again seal_format (λ x. Seal x.0 x.1) (e, l) fits
body_again v (Fill e f l gs) fits = whole_again (fill_format v) (λ x. Fill x.0 x.1.0 x.1.1.0 x.1.1.1) (e, (f, (l, gs))) ((fits.0, (fits.1, (fits.2, ((fits.4, fits.3), fits.5)))), fits.6)
body_again v (Manage t) fits = refl

-- ---- sizes

pub length-digest_bytes : (h : List ℕ) (n : ℕ) → length (digest_bytes h n) ≡ 4 * n
unfolding digest_bytes
length-digest_bytes h zero = refl
length-digest_bytes h (suc n) = omega (arith, length-digest_bytes h n, length-append (digest_bytes h n) (to_be_bytes w32 (slice_index h n)))

pub length-check : (v : Version) (b : List ℕ) → length (check v b) ≤ 32
unfolding sha256
length-check V1 b = omega arith
length-check V2 b = omega (arith, length-digest_bytes (final_hash initial_hash_256 b) 8)

length-block : (v : Version) (b : List ℕ) → IsBlock b → length (block v b) ≤ 65572
length-block v b is = omega (arith, is.1, length-append (number 4 (length b)) (b ++ check v b), length-append b (check v b), length-number 4 (length b), length-check v b)

length-blocks : (v : Version) (g : List (List ℕ)) → AllByRecursion IsBlock g → length (flat_map (block v) g) ≤ 65572 * length g
length-blocks v [] all = omega arith
length-blocks v (b ∷ g) all = omega (arith, ap length (flat_map-cons (block v) b g), length-append (block v b) (flat_map (block v) g), length-block v b all.0, length-blocks v g all.1)

length-group : (v : Version) (g : List (List ℕ)) → IsGroup g → length (group v g) ≤ 4196609
length-group v g is = omega (arith, is.1, length-append (number 1 (length g)) (flat_map (block v) g), length-number 1 (length g), length-blocks v g is.2)

pub size_fits : (v : Version) (r : Record) → Fits v r → length (body v r) < 2 ^ 32
size_fits v (Make e f t n) fits = omega (arith, length-append (number 8 e) (number 8 f ++ (number 4 t ++ nodes n)), length-append (number 8 f) (number 4 t ++ nodes n), length-append (number 4 t) (nodes n), length-number 8 e, length-number 8 f, length-number 4 t)
size_fits v (Append e o g) fits = omega (arith, length-append (number 8 e) (number 4 o ++ group v g), length-append (number 4 o) (group v g), length-number 8 e, length-number 4 o, length-group v g fits.2)
size_fits v (Fence e g) fits = omega (arith, length-append (number 8 e) (number 8 g), length-number 8 e, length-number 8 g)
size_fits v (Freeze e) fits = omega (arith, length-number 8 e)
size_fits v (Seal e l) fits = omega (arith, length-append (number 8 e) (number 4 l), length-number 8 e, length-number 4 l)
size_fits v (Fill e f l gs) fits = omega (arith, fits.1, length-append (number 8 e) (number 4 f ++ (number 4 l ++ groups v gs)), length-append (number 4 f) (number 4 l ++ groups v gs), length-append (number 4 l) (groups v gs), length-number 8 e, length-number 4 f, length-number 4 l)
size_fits v (Manage t) fits = omega (arith, fits)

pub fields_fit : (v : Version) (r : Record) → Fits v r → IsInRange r
fields_fit v (Make e f t n) fits = fits
fields_fit v (Append e o g) fits = fits
fields_fit v (Fence e g) fits = fits
fields_fit v (Freeze e) fits = fits
fields_fit v (Seal e l) fits = fits
fields_fit v (Fill e f l gs) fits = fits.0
fields_fit v (Manage t) fits = tt

both_fit : (v : Version) (r : Record) → IsInRange r → length (body v r) < 2 ^ 32 → Fits v r
both_fit v (Make e f t n) fields size = fields
both_fit v (Append e o g) fields size = fields
both_fit v (Fence e g) fields size = fields
both_fit v (Freeze e) fields size = fields
both_fit v (Seal e l) fields size = fields
both_fit v (Fill e f l gs) fields size = (fields, omega (arith, size, length-append (number 8 e) (number 4 f ++ (number 4 l ++ groups v gs)), length-append (number 4 f) (number 4 l ++ groups v gs), length-append (number 4 l) (groups v gs), length-number 8 e, length-number 4 f, length-number 4 l))
both_fit v (Manage t) fields size = omega (arith, size)

-- ---- records

pub record_takes : (v : Version) (bytes : List ℕ) (r : Record) (n : ℕ) → IsBytes bytes → record_at v bytes ≡ Some (r, n) → Begins v bytes r n
unfolding record_at
record_takes v bytes r n fits e =
    let k = bind_some (number_at 4 bytes) (λ k. bytes_at k.0 k.1 >>= λ b. body_at v b.0 >>= λ r. Some (r, 4 + k.0)) (r, n) e in
    let b = bind_some (bytes_at k.0.0 k.0.1) (λ b. body_at v b.0 >>= λ r. Some (r, 4 + k.0.0)) (r, n) k.2 in
    let t = bind_some (body_at v b.0.0) (λ r. Some (r, 4 + k.0.0)) (r, n) b.2 in
    let sk = number4.takes bytes k.0.0 k.0.1 fits k.1 in
    let sb = bytes_takes k.0.0 k.0.1 b.0.0 b.0.1 b.1 in
    let text_fits : IsBytes b.0.0 = subst IsBytes (take_at b.0.0 b.0.1 k.0.0 sb.1) (IsBytes-take k.0.0 (b.0.0 ++ b.0.1) (subst IsBytes sb.0 (IsBytes-after (number 4 k.0.0) k.0.1 (subst IsBytes sk.0 fits)))) in
    let st = body_takes v b.0.0 t.0 text_fits t.1 in
    let size : length (body v t.0) ≡ k.0.0 = ap length (sym st.0) ∙ sb.1 in
    let parts : bytes ≡ spelling v t.0 ++ b.0.1 = sk.0 ∙ ap (λ (l : List ℕ). number 4 k.0.0 ++ l) (sb.0 ∙ ap (λ (l : List ℕ). l ++ b.0.1) st.0) ∙ ap (λ (j : ℕ). number 4 j ++ (body v t.0 ++ b.0.1)) (sym size) ∙ sym (append_assoc (number 4 (length (body v t.0))) (body v t.0) b.0.1) in
    let whole_size : length (spelling v t.0) ≡ 4 + k.0.0 = omega (arith, size, length-append (number 4 (length (body v t.0))) (body v t.0), length-number 4 (length (body v t.0))) in
    let begins : Begins v bytes t.0 (4 + k.0.0) = record {
      fits = both_fit v t.0 st.1 (rw size sk.1);
      within = omega (arith, ap length parts, length-append (spelling v t.0) b.0.1, whole_size);
      spelled = ap (λ (l : List ℕ). take (4 + k.0.0) l) parts ∙ take_at (spelling v t.0) b.0.1 (4 + k.0.0) whole_size;
    } in
    let made : Record × ℕ = (t.0, 4 + k.0.0) in
    subst (λ (y : Record × ℕ). Begins v bytes y.0 y.1) (some_is made (r, n) t.2) begins

pub record_again : (v : Version) (bytes : List ℕ) (r : Record) (n : ℕ) → Begins v bytes r n → record_at v bytes ≡ Some (r, n)
unfolding record_at
record_again v bytes r n begins =
    let parts : bytes ≡ spelling v r ++ drop n bytes = sym (take-append-drop n bytes) ∙ ap (λ (l : List ℕ). l ++ drop n bytes) begins.spelled in
    let regrouped : bytes ≡ number 4 (length (body v r)) ++ (body v r ++ drop n bytes) = parts ∙ append_assoc (number 4 (length (body v r))) (body v r) (drop n bytes) in
    let whole_size : length (spelling v r) ≡ 4 + length (body v r) = omega (arith, length-append (number 4 (length (body v r))) (body v r), length-number 4 (length (body v r))) in
    let count : 4 + length (body v r) ≡ n = sym whole_size ∙ ap length (sym begins.spelled) ∙ omega (arith, begins.within, length-take n bytes) in
    ap (record_at v) regrouped ∙ rw (number4.again (length (body v r)) (body v r ++ drop n bytes) (size_fits v r begins.fits), bytes_again (body v r) (drop n bytes), body_again v r (fields_fit v r begins.fits)) (ap (λ (k : ℕ). Some (r, k)) count)

pub is_found : (v : Version) (bytes : List ℕ) (x : Result (Record × ℕ) BlockFault) → IsBytes bytes → Gives (λ y. y) x (record_at v bytes) → IfOk x (λ y. Begins v bytes y.0 y.1)
is_found v bytes (Ok y) fits given = record_takes v bytes y.0 y.1 fits given
is_found v bytes (Err e) fits given = tt

pub is_only : (v : Version) (bytes : List ℕ) (x : Result (Record × ℕ) BlockFault) → Gives (λ y. y) x (record_at v bytes) → (r : Record) (n : ℕ) → Begins v bytes r n → MatchResult x (λ y. y ≡ (r, n)) (λ e. e ≡ faults.Memory)
is_only v bytes (Ok y) given r n begins = some_is y (r, n) (sym given ∙ record_again v bytes r n begins)
is_only v bytes (Err faults.Memory) given r n begins = refl
is_only v bytes (Err faults.Damaged) given r n begins = absurd (cc (given, record_again v bytes r n begins))

spelled_first : (v : Version) (a : Record) (x : List ℕ) → Fits v a → Begins v (spelling v a ++ x) a (length (spelling v a))
spelled_first v a x fits = record {
  fits = fits;
  within = omega (arith, length-append (spelling v a) x);
  spelled = take_at (spelling v a) x (length (spelling v a)) refl;
}

-- no spelling begins another
pub one_spelling_law : (v : Version) (a b : Record) (x y : List ℕ) → Fits v a → Fits v b → spelling v a ++ x ≡ spelling v b ++ y → a ≡ b
one_spelling_law v a b x y fa fb same =
    let first = record_again v (spelling v a ++ x) a _ (spelled_first v a x fa) in
    let second = record_again v (spelling v b ++ y) b _ (spelled_first v b y fb) in
    ap (λ (p : Record × ℕ). p.0) (some_is _ _ (sym first ∙ ap (record_at v) same ∙ second))
