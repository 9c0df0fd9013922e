-- What a ractor that starts is, and one that has ended.
use Rattle.std.specs.Prelude.{◌≡◌, ℕ, Bool, true, false, [], None}
use Rattle.rr_base.specs.declared.limits.Limits.{Limits}
use Rattle.rr_world.specs.Views.{Member}

-- it has this number, runs or does not, no objects, no roots, and nothing in its hand
pub record IsBare (limits : Limits) (number : ℕ) (running : Bool) (m : Member) : Type 0 where
  pub slots : m.space.slots ≡ []
  pub below : m.space.below ≡ []
  pub owner : m.space.owner ≡ number
  pub limit : m.space.limit ≡ limits.slots
  pub roots : m.roots ≡ []
  pub hand : m.hand ≡ None
  pub home : m.home ≡ None
  pub ticket : m.ticket ≡ None
  pub plan : m.plan ≡ None
  pub published : m.published ≡ None
  pub next : m.space.next_message ≡ 1
  pub run : m.limits ≡ limits
  pub runs : m.runs ≡ running

abbrev pub IsBegun : Limits → ℕ → Member → Type 0
IsBegun limits number m = IsBare limits number true m

abbrev pub IsOver : Limits → ℕ → Member → Type 0
IsOver limits number m = IsBare limits number false m
