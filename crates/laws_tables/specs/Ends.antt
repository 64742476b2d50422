-- Where the loads of one stream begin and end.
use Rattle.std.specs.Prelude.{◌≡◌, ℕ, ◌≤◌, List, Some, Contains}
use Rattle.model_histories.specs.Story.{Placed, Showed, Story, event_at, Copy, KeepsOrder}

-- nothing stands before this place, and no load ends before it
pub record StandsBehind {A : Type 0} (place : ℕ) (story : Story A) (order : KeepsOrder story) : Type 0 where
  pub copies : (l : ℕ) (c : Copy A) → Contains (order.copies l) c → place ≤ c.from
  pub ends : (l g start end : ℕ) (groups : List (Placed A)) → event_at story l ≡ Some (Showed g start end groups) → place ≤ end
