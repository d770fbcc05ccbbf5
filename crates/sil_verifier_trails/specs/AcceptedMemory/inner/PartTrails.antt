-- Parts of memory on the trails of an accepted function: a slot, what a cell holds, a loan, a field that is being built, an address in its scope or slot.
use Rattle.std.specs.Prelude.{◌≡◌, List, ◌∷◌, ◌++◌, Bool, true, Option, Some, Contains, flat_map}
use Rattle.sil_verifier_values.specs.memory_rules_accesses.Accesses.{accesses_of}
use Rattle.sil_verifier_values.specs.memory_rules_accesses.Sources.{sources_of}
use Rattle.sil_verifier_values.specs.memory_rules_accesses.declared.access.Access.{Access}
use Rattle.sil_verifier_values.specs.memory_rules_parts.Parts.{at_return, means, parts_of}
use Rattle.sil_verifier_values.specs.memory_rules_parts.Shown.{marks_of_access, part_marks}
use Rattle.sil_verifier_values.specs.memory_rules_parts.declared.part.Part.{Part}
use Rattle.sil_verifier_values.specs.ownership_kinds_chains.OwnershipChains.Facts.{known_or}
use Rattle.sil_verifier_values.specs.ownership_kinds_origins.Facts.{facts_in}
use Rattle.sil_verifier_values.specs.reach_engine_marks.declared.path_patterns.mark.Mark.{Mark}
use Rattle.sil_ast.specs.declared.function.Function.{Function}
use Rattle.sil_cfg.specs.Returns.{is_return}
use Rattle.sil_cfg.specs.declared.item.Item.{Item}
use Rattle.sil_verifier_values.specs.sil_types_declarations.TypeDefinitions.Declarations.{Declarations}
use Rattle.sil_verifier_trails.specs.RunTrails.inner.RunTrails.{IsRunTrail}
use Rattle.sil_verifier_trails.specs.RunTrails.inner.Switched.{finds, switched, switched_over}
use Rattle.sil_verifier_trails.specs.AcceptedTrails.inner.Accepted.{IsAcceptedIn}

module _ (d : Declarations) (f : Function) where
  -- the part is one of the function
  abbrev pub IsPartOf : Part → Type 0
  IsPartOf p = Contains (parts_of (sources_of d f) (known_or (facts_in d f))) p

  -- whether the part is on where the trail has come to: the cell is full, the slot allocated, the loan open ..
  abbrev pub is_on : Part → List Item → Option Bool
  is_on p t = switched (part_marks (sources_of d f) (facts_in d f) f p) t

  -- what an item does to memory, step by step
  abbrev pub accesses_in : Item → List Access
  accesses_in i = accesses_of (sources_of d f) (facts_in d f) f i

  -- what an access means to a part
  abbrev pub meant : Part → Access → Option Mark
  meant p a = means (sources_of d f) (known_or (facts_in d f)) p a

  -- how accesses leave a part that was on or off
  abbrev pub on_behind : Part → List Access → Bool → Option Bool
  on_behind p accesses on = switched_over (flat_map (marks_of_access (sources_of d f) (facts_in d f) f p) accesses) on

  -- behind the trail, and then some accesses of the next item, the part is as the mark needs it
  pub record IsFoundBy (p : Part) (t : List Item) (accesses : List Access) (mark : Mark) : Type 0 where
    pub on : Bool
    pub was : is_on p t ≡ Some on
    pub then : Bool
    pub left : on_behind p accesses on ≡ Some then
    pub found : finds mark.needs then ≡ true

-- each part is on or off on each trail, as its marks leave it
abbrev pub ArePartsFollowed : Type 0
ArePartsFollowed = (d : Declarations) (f : Function) → IsAcceptedIn d f → (p : Part) → IsPartOf d f p → (t : List Item) → IsRunTrail f t
    → (on : Bool) × (is_on d f p t ≡ Some on)

-- each access of the next item finds each part as it needs it, behind the accesses before it
abbrev pub AreAccessesRight : Type 0
AreAccessesRight = (d : Declarations) (f : Function) → IsAcceptedIn d f → (p : Part) → IsPartOf d f p → (t : List Item) (i : Item) → IsRunTrail f (i ∷ t)
    → (front rest : List Access) (a : Access) (mark : Mark) → accesses_in d f i ≡ front ++ a ∷ rest → meant d f p a ≡ Some mark → IsFoundBy d f p t front mark

-- so does a `return`, behind all of its accesses
abbrev pub AreReturnsRight : Type 0
AreReturnsRight = (d : Declarations) (f : Function) → IsAcceptedIn d f → (p : Part) → IsPartOf d f p → (t : List Item) (i : Item) → IsRunTrail f (i ∷ t)
    → (mark : Mark) → is_return f i ≡ true → at_return p ≡ Some mark → IsFoundBy d f p t (accesses_in d f i) mark
