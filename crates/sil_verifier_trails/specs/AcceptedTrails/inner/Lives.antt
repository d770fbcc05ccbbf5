-- Owned values and scopes, on the trails of an accepted function.
use Rattle.std.specs.Prelude.{◌≡◌, ◌<◌, List, ◌∷◌, Bool, true, false, Option, Some, length}
use Rattle.std.specs.List.{list_any}
use Rattle.sil_verifier_values.specs.borrow_scopes.Scopes.{is_scope, lent_bases}
use Rattle.sil_cfg_items.specs.Items.{item_taken}
use Rattle.sil_verifier_values.specs.lifetime_worklist.inner.Runs.{IsOwned}
use Rattle.numbered_form.specs.Numbering.{values_of}
use Rattle.sil_verifier_values.specs.ownership_kinds_chains.OwnershipChains.Facts.{has, known_or}
use Rattle.sil_verifier_values.specs.ownership_kinds_origins.Facts.{facts_in}
use Rattle.sil_verifier_values.specs.reach_engine_marks.PathChecks.Entries.{marks_for}
use Rattle.sil_ast.specs.declared.function.Function.{Function}
use Rattle.sil_ast.specs.declared.place.ValueId.{ValueId}
use Rattle.sil_cfg.specs.declared.item.Item.{Item}
use Rattle.sil_verifier_values.specs.sil_types_declarations.TypeDefinitions.Declarations.{Declarations}
use Rattle.sil_verifier_trails.specs.RunTrails.inner.RunTrails.{IsTurnedTrail}
use Rattle.sil_verifier_trails.specs.RunTrails.inner.Switched.{switched}
use Rattle.sil_verifier_values.specs.sil_verifier_accepted.AcceptedModules.Shown.{lives_in, scopes_in}
use Rattle.sil_verifier_trails.specs.AcceptedTrails.inner.Accepted.{IsAcceptedIn}
use Rattle.sil_verifier_trails.specs.AcceptedTrails.inner.Passing.{IsPassed, is_end}

abbrev pub IsValueOf : Function → ValueId → Type 0
IsValueOf f v = v.0 < length (values_of f.blocks)

-- an Owned value, and whether it is held where the trail has come to
pub record IsOwnedIn (d : Declarations) (f : Function) (v : ValueId) : Type 0 where
  pub is_value : IsValueOf f v
  pub owned : IsOwned (facts_in d f) v

abbrev pub is_held : Declarations → Function → ValueId → List Item → Option Bool
is_held d f v t = switched (marks_for v.0 (lives_in d f)) t

-- a scope, and whether it is open
pub record IsScopeIn (d : Declarations) (f : Function) (s : ValueId) : Type 0 where
  pub is_value : IsValueOf f s
  pub scope : is_scope f (known_or (facts_in d f)) s ≡ true

abbrev pub is_open : Declarations → Function → ValueId → List Item → Option Bool
is_open d f s t = switched (marks_for s.0 (scopes_in d f)) t

-- the scope borrows from the value
abbrev pub BorrowsFrom : Declarations → Function → ValueId → ValueId → Type 0
BorrowsFrom d f s b = has (lent_bases f (known_or (facts_in d f)) s.0) b.0 ≡ true

-- an Owned value is held where the next item ends or uses it, and not where it begins or a `return` stands
abbrev pub AreLivesPassed : Type 0
AreLivesPassed = (d : Declarations) (f : Function) → IsAcceptedIn d f → (v : ValueId) → IsOwnedIn d f v → (t : List Item) (i : Item) → IsTurnedTrail f (i ∷ t)
    → IsPassed (facts_in d f) v (is_held d f v) f t i

-- a scope is open where the next item ends or uses it, and not where it begins or a `return` stands
abbrev pub AreScopesPassed : Type 0
AreScopesPassed = (d : Declarations) (f : Function) → IsAcceptedIn d f → (s : ValueId) → IsScopeIn d f s → (t : List Item) (i : Item) → IsTurnedTrail f (i ∷ t)
    → IsPassed (facts_in d f) s (is_open d f s) f t i

-- what an open scope borrows from doesn't end, unless the scope does
abbrev pub AreBasesKept : Type 0
AreBasesKept = (d : Declarations) (f : Function) → IsAcceptedIn d f → (s b : ValueId) → IsScopeIn d f s → BorrowsFrom d f s b
    → (t : List Item) (i : Item) → IsTurnedTrail f (i ∷ t) → is_open d f s t ≡ Some true → list_any (is_end (facts_in d f) s) (item_taken f i) ≡ false
    → list_any (is_end (facts_in d f) b) (item_taken f i) ≡ false
