-- A script as far as it was read, line by line, and the first line at which a text is none.
use Rattle.std.proofs.Common.{◌≡◌, ◌∙◌, ◌+◌, ◌<◌, ◌≤◌, ◌++◌, ◌∷◌, ◌==◌, ℕ, Bool, Bor, List, Option, Some, None, [], add-one, ap, append-nil, arith, cond, drop, false, filter, get_or, length, not, refl, subst, suc, sym, take, true}
use Rattle.std.proofs.lemmas.List.{take-append-drop, take_all, take_more}
use Rattle.std.proofs.lemmas.List.Elements.{filter-append}
use Rattle.std.specs.List.{AllByRecursion}
use Rattle.std.specs.Str.{IsUtf8}
use Rattle.std.specs.Str.Lines.{lines}
use Rattle.script_lines.specs.declared.line.Line.{Line}
use Rattle.script_lines.specs.Sequences.{each}
use Rattle.script_lines.proofs.Lists.{each_more, length-texts, text_at, texts}
use Rattle.script_lines.proofs.TextLines.{lines_from_utf8, utf8_from_lines}
use Rattle.script_run.specs.Script.{BeginsScript, IsDraft, IsFirstBad, IsScript, Size, SpellsDraft, SpellsLine, SpellsPlan, SpellsSetup, is_some, lacks, spoils, words_of}
use Rattle.script_run.proofs.Setups.{one_setup}

-- ---- lists with one more element, and fronts of lists

all_more : {X : Type 0} (P : X → Type 0) (xs : List X) (x : X) → AllByRecursion P xs → P x → AllByRecursion P (xs ++ x ∷ [])
all_more P [] x h p = (p, tt)
all_more P (y ∷ xs) x h p = (h.0, all_more P xs x h.1 p)

all_front : {X : Type 0} (P : X → Type 0) (xs ys : List X) → AllByRecursion P (xs ++ ys) → AllByRecursion P xs
all_front P [] ys h = tt
all_front P (x ∷ xs) ys h = (h.0, all_front P xs ys h.1)

all_last : {X : Type 0} (P : X → Type 0) (xs : List X) (x : X) → AllByRecursion P (xs ++ x ∷ []) → P x
all_last P [] x h = h.0
all_last P (y ∷ xs) x h = all_last P xs x h.1

each_front : {X : Type 0} (P : X → List ℕ → Type 0) (xs : List X) (words more : List (List ℕ)) → each P xs (words ++ more) → (ys : List X) × each P ys words
each_front P xs [] more h = ([], tt)
each_front P [] (w ∷ words) more h = absurd h
each_front P (x ∷ xs) (w ∷ words) more h = let front = each_front P xs words more h.1 in (x ∷ front.0, (h.0, front.1))

each_last : {X : Type 0} (P : X → List ℕ → Type 0) (xs : List X) (words : List (List ℕ)) (word : List ℕ) → each P xs (words ++ word ∷ []) → (x : X) × P x word
each_last P [] [] word h = absurd h
each_last P (x ∷ xs) [] word h = (x, h.0)
each_last P [] (w ∷ words) word h = absurd h
each_last P (x ∷ xs) (w ∷ words) word h = each_last P xs words word h.1

no_cons : {X : Type 0} (x : X) (xs : List X) → (x ∷ xs) ≡ [] → ⊥
no_cons x xs e = omega (arith, ap length e)

-- an empty line is passed over, and any other is kept
passed_over : (ls : List (List ℕ)) (t : List ℕ) → is_some t ≡ false → filter is_some (ls ++ t ∷ []) ≡ filter is_some ls
passed_over ls t e = filter-append is_some ls (t ∷ []) ∙ ap (λ (b : Bool). filter is_some ls ++ cond b (t ∷ []) []) e ∙ append-nil (filter is_some ls)

kept : (ls : List (List ℕ)) (t : List ℕ) → is_some t ≡ true → filter is_some (ls ++ t ∷ []) ≡ filter is_some ls ++ t ∷ []
kept ls t e = filter-append is_some ls (t ∷ []) ∙ ap (λ (b : Bool). filter is_some ls ++ cond b (t ∷ []) []) e

-- ---- one more line

pub draft_empty : (ls : List (List ℕ)) (t : List ℕ) (setup : Option Size) (plan : List Line) → IsUtf8 t → is_some t ≡ false → IsDraft ls setup plan
    → IsDraft (ls ++ t ∷ []) setup plan
draft_empty ls t setup plan utf8 e h =
    (all_more IsUtf8 ls t h.0 utf8, subst (λ (ts : List (List ℕ)). SpellsDraft ts setup plan) (sym (passed_over ls t e)) h.1)

pub draft_setup : (ls : List (List ℕ)) (t : List ℕ) (size : Size) (plan : List Line) → IsUtf8 t → is_some t ≡ true → SpellsSetup (words_of t) size
    → IsDraft ls None plan → IsDraft (ls ++ t ∷ []) (Some size) plan
draft_setup ls t size plan utf8 e spelled h =
    let first = kept ls t e ∙ ap (λ (ts : List (List ℕ)). ts ++ t ∷ []) h.1.0 in
    let alone : SpellsPlan (t ∷ []) size plan = subst (λ (p : List Line). SpellsPlan (t ∷ []) size p) (sym h.1.1) (spelled, tt) in
    (all_more IsUtf8 ls t h.0 utf8, subst (λ (ts : List (List ℕ)). SpellsPlan ts size plan) (sym first) alone)

plan_more : (ts : List (List ℕ)) (t : List ℕ) (size : Size) (plan : List Line) (line : Line) → SpellsPlan ts size plan → SpellsLine size t line
    → SpellsPlan (ts ++ t ∷ []) size (plan ++ line ∷ [])
plan_more [] t size plan line h spelled = absurd h
plan_more (first ∷ ts) t size plan line h spelled = (h.0, each_more (λ l text. SpellsLine size text l) plan ts line t h.1 spelled)

pub draft_line : (ls : List (List ℕ)) (t : List ℕ) (size : Size) (plan : List Line) (line : Line) → IsUtf8 t → is_some t ≡ true → SpellsLine size t line
    → IsDraft ls (Some size) plan → IsDraft (ls ++ t ∷ []) (Some size) (plan ++ line ∷ [])
draft_line ls t size plan line utf8 e spelled h = (
  all_more IsUtf8 ls t h.0 utf8,
  subst (λ (ts : List (List ℕ)). SpellsPlan ts size (plan ++ line ∷ [])) (sym (kept ls t e)) (plan_more (filter is_some ls) t size plan line h.1 spelled),
)

-- ---- a line with which no script goes on

pub stops_bytes : (ls : List (List ℕ)) (t : List ℕ) → (IsUtf8 t → ⊥) → BeginsScript (ls ++ t ∷ []) → ⊥
stops_bytes ls t absent b = absent (all_last IsUtf8 ls t b.2.0)

no_first : (t : List ℕ) (setup : Option Size) (plan : List Line) → ((size : Size) → SpellsSetup (words_of t) size → ⊥) → SpellsDraft (t ∷ []) setup plan → ⊥
no_first t None plan absent h = no_cons t [] h.0
no_first t (Some size) plan absent h = absent size h.0

pub stops_setup : (ls : List (List ℕ)) (t : List ℕ) (plan : List Line) → is_some t ≡ true → ((size : Size) → SpellsSetup (words_of t) size → ⊥)
    → IsDraft ls None plan → BeginsScript (ls ++ t ∷ []) → ⊥
stops_setup ls t plan e absent h b =
    let first = kept ls t e ∙ ap (λ (ts : List (List ℕ)). ts ++ t ∷ []) h.1.0 in
    no_first t b.0 b.1 absent (subst (λ (ts : List (List ℕ)). SpellsDraft ts b.0 b.1) first b.2.1)

no_next : (ts : List (List ℕ)) (t : List ℕ) (size : Size) (plan : List Line) (setup : Option Size) (other : List Line)
    → ((line : Line) → SpellsLine size t line → ⊥) → SpellsPlan ts size plan → SpellsDraft (ts ++ t ∷ []) setup other → ⊥
no_next [] t size plan setup other absent h d = absurd h
no_next (first ∷ ts) t size plan None other absent h d = no_cons first (ts ++ t ∷ []) d.0
no_next (first ∷ ts) t size plan (Some found) other absent h d =
    let last = each_last (λ l text. SpellsLine found text l) other ts t d.1 in
    absent last.0 (subst (λ (s : Size). SpellsLine s t last.0) (one_setup _ found size d.0 h.0) last.1)

pub stops_line : (ls : List (List ℕ)) (t : List ℕ) (size : Size) (plan : List Line) → is_some t ≡ true → ((line : Line) → SpellsLine size t line → ⊥)
    → IsDraft ls (Some size) plan → BeginsScript (ls ++ t ∷ []) → ⊥
stops_line ls t size plan e absent h b =
    no_next (filter is_some ls) t size plan b.0 b.1 absent h.1 (subst (λ (ts : List (List ℕ)). SpellsDraft ts b.0 b.1) (kept ls t e) b.2.1)

-- ---- the same, of a line as the code reads it

pub goes_on : (t line : List ℕ) (empty : Bool) (setup : Option Size) (size : Size) (plan after : List Line) (found : Line) → t ≡ line → IsUtf8 line
    → empty ≡ (length t == 0) → empty ≡ false → setup ≡ Some size → SpellsLine size t found → after ≡ plan ++ found ∷ []
    → (before : List (List ℕ)) → IsDraft before setup plan → IsDraft (before ++ line ∷ []) setup after
goes_on t line empty setup size plan after found same utf8 tested full set spelled put before h =
    let h2 : IsDraft before (Some size) plan = subst (λ (s : Option Size). IsDraft before s plan) set h in
    let more = draft_line before t size plan found (subst IsUtf8 (sym same) utf8) (ap not (sym tested ∙ full)) spelled h2 in
    let kept_all : IsDraft (before ++ t ∷ []) (Some size) after = subst (λ (p : List Line). IsDraft (before ++ t ∷ []) (Some size) p) (sym put) more in
    let sized : IsDraft (before ++ t ∷ []) setup after = subst (λ (s : Option Size). IsDraft (before ++ t ∷ []) s after) (sym set) kept_all in
    subst (λ (x : List ℕ). IsDraft (before ++ x ∷ []) setup after) same sized

pub stops_before_setup : (t line : List ℕ) (empty : Bool) (setup : Option Size) (plan : List Line) → t ≡ line → empty ≡ (length t == 0) → empty ≡ false → setup ≡ None
    → ((size : Size) → SpellsSetup (words_of t) size → ⊥) → (before : List (List ℕ)) → IsDraft before setup plan → BeginsScript (before ++ line ∷ []) → ⊥
stops_before_setup t line empty setup plan same tested full unset absent before h =
    subst (λ (x : List ℕ). BeginsScript (before ++ x ∷ []) → ⊥) same
    (stops_setup before t plan (ap not (sym tested ∙ full)) absent (subst (λ (s : Option Size). IsDraft before s plan) unset h))

pub stops_below_setup : (t line : List ℕ) (empty : Bool) (setup : Option Size) (size : Size) (plan : List Line) → t ≡ line → empty ≡ (length t == 0) → empty ≡ false
    → setup ≡ Some size → ((found : Line) → SpellsLine size t found → ⊥)
    → (before : List (List ℕ)) → IsDraft before setup plan → BeginsScript (before ++ line ∷ []) → ⊥
stops_below_setup t line empty setup size plan same tested full set absent before h =
    subst (λ (x : List ℕ). BeginsScript (before ++ x ∷ []) → ⊥) same
    (stops_line before t size plan (ap not (sym tested ∙ full)) absent (subst (λ (s : Option Size). IsDraft before s plan) set h))

-- ---- a loop over the lines of a text

line_more : (ws : List (Bor (List ℕ))) (i : ℕ) (d : Bor (List ℕ)) → i < length ws → take (i + 1) (texts ws) ≡ take i (texts ws) ++ (get_or ws i d).now ∷ []
line_more ws i d below =
    take_more (texts ws) i [] (omega (arith, length-texts ws)) ∙ ap (λ (l : List ℕ). take i (texts ws) ++ l ∷ []) (text_at ws i d below)

all_taken : (ws : List (Bor (List ℕ))) (i : ℕ) → length ws ≤ i → take i (texts ws) ≡ texts ws
all_taken ws i past = take_all i (texts ws) (omega (arith, length-texts ws))

pub draft_next : (ws : List (Bor (List ℕ))) (i : ℕ) (d : Bor (List ℕ)) (setup after : Option Size) (plan more : List Line) → i < length ws
    → ((before : List (List ℕ)) → IsDraft before setup plan → IsDraft (before ++ (get_or ws i d).now ∷ []) after more)
    → IsDraft (take i (texts ws)) setup plan → IsDraft (take (i + 1) (texts ws)) after more
draft_next ws i d setup after plan more below step h = subst (λ (ls : List (List ℕ)). IsDraft ls after more) (sym (line_more ws i d below)) (step _ h)

pub spoilt : (ws : List (Bor (List ℕ))) (i : ℕ) (d : Bor (List ℕ)) (text : List ℕ) (setup : Option Size) (plan : List Line) → texts ws ≡ lines text → i < length ws
    → ((before : List (List ℕ)) → IsDraft before setup plan → BeginsScript (before ++ (get_or ws i d).now ∷ []) → ⊥)
    → IsDraft (take i (texts ws)) setup plan → IsFirstBad (lines text) (i + 1)
spoilt ws i d text setup plan is below absent h =
    subst (λ (ls : List (List ℕ)). IsFirstBad ls (i + 1)) is
    (spoils i (add-one i) (omega (arith, length-texts ws)) (setup, plan, h)
    (λ b. absent _ h (subst BeginsScript (ap (λ (k : ℕ). take k (texts ws)) (sym (add-one i)) ∙ line_more ws i d below) b)))

pub lacking : (ws : List (Bor (List ℕ))) (i : ℕ) (text : List ℕ) (setup : Option Size) (plan : List Line) → texts ws ≡ lines text → length ws ≤ i → setup ≡ None
    → IsDraft (take i (texts ws)) setup plan → IsFirstBad (lines text) (length ws + 1)
lacking ws i text setup plan is past nothing h =
    let unset : IsDraft (take i (texts ws)) None plan = subst (λ (s : Option Size). IsDraft (take i (texts ws)) s plan) nothing h in
    let whole : IsDraft (texts ws) None plan = subst (λ (ls : List (List ℕ)). IsDraft ls None plan) (all_taken ws i past) unset in
    subst (λ (ls : List (List ℕ)). IsFirstBad ls (length ws + 1)) is
    (lacks (add-one (length ws) ∙ ap (λ (n : ℕ). suc n) (sym (length-texts ws))) (None, plan, whole) whole.1.0)

pub script_whole : (ws : List (Bor (List ℕ))) (i : ℕ) (text : List ℕ) (setup : Option Size) (size : Size) (plan : List Line) → texts ws ≡ lines text → length ws ≤ i
    → setup ≡ Some size → IsDraft (take i (texts ws)) setup plan → IsScript text size plan
script_whole ws i text setup size plan is past found h =
    let read : IsDraft (take i (texts ws)) (Some size) plan = subst (λ (s : Option Size). IsDraft (take i (texts ws)) s plan) found h in
    let whole : IsDraft (lines text) (Some size) plan = subst (λ (ls : List (List ℕ)). IsDraft ls (Some size) plan) (all_taken ws i past ∙ is) read in
    (utf8_from_lines text whole.0, whole.1)

-- ---- a text with such a line is no script

front_spelled : (ts more : List (List ℕ)) (setup : Option Size) (plan : List Line) → SpellsDraft (ts ++ more) setup plan
    → (s : Option Size) × (p : List Line) × SpellsDraft ts s p
front_spelled [] more setup plan h = (None, [], (refl, refl))
front_spelled (first ∷ ts) more None plan h = absurd (no_cons first (ts ++ more) h.0)
front_spelled (first ∷ ts) more (Some size) plan h =
    let front = each_front (λ l text. SpellsLine size text l) plan ts more h.1 in (Some size, front.0, (h.0, front.1))

begins_front : (ls more : List (List ℕ)) (setup : Option Size) (plan : List Line) → IsDraft (ls ++ more) setup plan → BeginsScript ls
begins_front ls more setup plan h =
    let front = front_spelled (filter is_some ls) (filter is_some more) setup plan (subst (λ (ts : List (List ℕ)). SpellsDraft ts setup plan) (filter-append is_some ls more) h.1) in
    (front.0, front.1, (all_front IsUtf8 ls more h.0, front.2))

begins_taken : (ls : List (List ℕ)) (k : ℕ) (setup : Option Size) (plan : List Line) → IsDraft ls setup plan → BeginsScript (take k ls)
begins_taken ls k setup plan h =
    begins_front (take k ls) (drop k ls) setup plan (subst (λ (ts : List (List ℕ)). IsDraft ts setup plan) (sym (take-append-drop k ls)) h)

no_script_so : (text : List ℕ) (n : ℕ) → IsFirstBad (lines text) n → (size : Size) (plan : List Line) → IsScript text size plan → ⊥
no_script_so text n (spoils k is below before absent) size plan h = absent (begins_taken (lines text) (suc k) (Some size) plan (lines_from_utf8 text h.0, h.1))
no_script_so text n (lacks is begun empty) size plan h = subst (λ (ts : List (List ℕ)). SpellsPlan ts size plan) empty h.1

pub no_script : (text : List ℕ) (n : ℕ) → IsFirstBad (lines text) n → (size : Size) (plan : List Line) → IsScript text size plan → ⊥
no_script text n first size plan h = no_script_so text n first size plan h
