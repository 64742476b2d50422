-- The replica that a list of records makes.
use Rattle.std.specs.Prelude.{ℕ, Bool, true, false, not, ◌+◌, ◌&&◌, List, [], ◌∷◌, ◌++◌, length, Option, Some, None, ◌==◌, ◌||◌, nat_lt, nat_le, if◌then◌else◌}
use Rattle.block_types.specs.declared.record.Nodes.{Nodes}
use Rattle.block_types.specs.declared.record.Record.{Record}
use Rattle.block_types.specs.declared.record.Record.TheVariants.{Make, Append, Fence, Freeze, Seal, Fill, Manage}
use Rattle.block_types.specs.Limits.{is_within, are_nodes}
use Rattle.replica.specs.declared.phase.Phase.{Phase}
use Rattle.replica.specs.declared.phase.Phase.TheVariants as phases
use Rattle.replica.specs.Groups.{Group, text_length}
use Rattle.replica.specs.Content.{Content, new_content, appended, fenced, frozen, sealed_with}
use Rattle.replica.specs.Reading.{groups_to}

-- the extent that a record is about
abbrev pub extent_of : Record → Option ℕ
extent_of (Make e fence target places) = Some e
extent_of (Append e offset group) = Some e
extent_of (Fence e generation) = Some e
extent_of (Freeze e) = Some e
extent_of (Seal e length) = Some e
extent_of (Fill e from length groups) = Some e
extent_of (Manage text) = None

abbrev pub is_number : ℕ → Option ℕ → Bool
is_number e None = false
is_number e (Some f) = f == e

-- cut to the groups up to a boundary
abbrev pub cut_to : Content → Option (List Group) → Content
cut_to content None = content
cut_to content (Some groups) = sealed_with content groups

-- a replica, or none, after one more record of its extent
abbrev pub applied : Option Content → Record → Option Content
applied None (Make e fence target places) = Some (new_content places target fence)
applied None _ = None
applied (Some content) (Append e offset group) = Some (appended content group)
applied (Some content) (Fence e generation) = Some (fenced content generation)
applied (Some content) (Freeze e) = Some (frozen content)
applied (Some content) (Seal e length) = Some (cut_to content (groups_to length content.groups))
applied (Some content) (Fill e from length groups) = Some (sealed_with content (content.groups ++ groups))
applied (Some content) _ = Some content

abbrev pub applied_at : ℕ → Option Content → Record → Option Content
applied_at e content r = if is_number e (extent_of r) then applied content r else content

abbrev pub replay_from : ℕ → Option Content → List Record → Option Content
replay_from e content [] = content
replay_from e content (r ∷ rs) = replay_from e (applied_at e content r) rs

-- what the records make of extent e
abbrev pub replay : ℕ → List Record → Option Content
replay e rs = replay_from e None rs

-- node n is one of the places
abbrev pub is_place : ℕ → Nodes → Bool
is_place n places = (n == places.primary) || ((n == places.second) || (n == places.third))

abbrev pub is_open : Phase → Bool
is_open phases.Open = true
is_open phases.Frozen = false
is_open phases.Sealed = false

abbrev pub is_frozen : Phase → Bool
is_frozen phases.Open = false
is_frozen phases.Frozen = true
is_frozen phases.Sealed = false

abbrev pub is_sealed : Phase → Bool
is_sealed phases.Open = false
is_sealed phases.Frozen = false
is_sealed phases.Sealed = true

-- there are groups up to that boundary
abbrev pub is_boundary : Option (List Group) → Bool
is_boundary None = false
is_boundary (Some groups) = true

-- the longest extent
abbrev pub longest : ℕ
longest = 20971519

-- groups that bring a frozen replica from its end to this length
abbrev pub is_tail : Content → ℕ → ℕ → List Group → Bool
is_tail content from end groups =
    not (length groups == 0) && ((from == text_length content.groups) && (nat_le end longest && (text_length content.groups + text_length groups == end)))

-- whether node n may write a record where its replica is this
abbrev pub fits : ℕ → Option Content → Record → Bool
fits n None (Make e fence target places) = is_place n places && (are_nodes places && is_within 4096 16777216 target)
fits n None _ = false
fits n (Some content) (Append e offset group) =
    is_open content.phase && ((offset == text_length content.groups) && nat_lt (text_length content.groups) content.target)
fits n (Some content) (Fence e generation) = is_open content.phase && nat_lt content.fence generation
fits n (Some content) (Freeze e) = is_open content.phase
fits n (Some content) (Seal e length) = not (is_sealed content.phase) && is_boundary (groups_to length content.groups)
fits n (Some content) (Fill e from length groups) = is_frozen content.phase && is_tail content from length groups
fits n (Some content) _ = false

abbrev pub fits_at : ℕ → List Record → Record → Option ℕ → Bool
fits_at n before r None = false
fits_at n before r (Some e) = fits n (replay e before) r

-- each record fits what those before it make of its extent
abbrev pub fit_after : ℕ → List Record → List Record → Bool
fit_after n before [] = true
fit_after n before (r ∷ rs) = fits_at n before r (extent_of r) && fit_after n (before ++ r ∷ []) rs

abbrev pub fit : ℕ → List Record → Bool
fit n rs = fit_after n [] rs
