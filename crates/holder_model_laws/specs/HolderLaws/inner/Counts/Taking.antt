-- What the entries of a frame hold, by any weight: what operands that end take away, and what results that begin bring.
use Rattle.std.specs.Prelude.{◌≡◌, ◌<◌, ◌+◌, ℕ, List, [], ◌∷◌, ◌++◌, cond, length, map, sum, Option, Ok}
use Rattle.std.specs.List.{flat_map}
use Rattle.sil_cfg_items.specs.declared.taken.Taken.{Taken}
use Rattle.numbered_form.specs.Lists.{Each}
use Rattle.memory_rules_parts.specs.ownership_kinds_chains.OwnershipChains.Facts.{known_or}
use Rattle.memory_rules_parts.specs.ownership_kinds_chains.declared.ownership_chains.facts.Facts.{Facts}
use Rattle.sil_ast.specs.declared.place.ObjectId.{ObjectId}
use Rattle.sil_ast.specs.declared.place.ValueId.{ValueId}
use Rattle.sil_types_declarations.specs.declared.type_definitions.kind.Kind.{Kind}
use Rattle.sil_types_declarations.specs.declared.type_definitions.kind.Kind.TheVariants as kind
use Rattle.holder_model.specs.Data.{Datum, references_in}
use Rattle.holder_model.specs.Frames.{Entry, ends, entry_at, held_references, results_put, without_ended}
use Rattle.holder_model.specs.HolderStates.{in_entry}
use Rattle.holder_model.specs.Holders.{of_references}

-- what a value of this kind holds
abbrev pub owned_references : Kind → Datum → List ObjectId
owned_references kind.Owned x = references_in x
owned_references kind.Guaranteed x = []
owned_references kind.Plain x = []

module _ (facts : ValueId → Option Facts) where
  abbrev pub references_ended_by : List Entry → Taken → List ObjectId
  references_ended_by entries t = cond (ends facts t) (held_references (entry_at entries t.value)) []

  -- what the operands held that end
  abbrev pub references_ended : List Entry → List Taken → List ObjectId
  references_ended entries ts = flat_map (references_ended_by entries) ts

  -- what the results hold
  abbrev pub references_begun : List ValueId → List Datum → List ObjectId
  references_begun [] xs = []
  references_begun (v ∷ vs) [] = []
  references_begun (v ∷ vs) (x ∷ xs) = owned_references (known_or facts v).kind x ++ references_begun vs xs

abbrev pub in_entries : (ObjectId → ℕ) → List Entry → ℕ
in_entries weight entries = sum (map (in_entry weight) entries)

-- a value of a frame with so many entries
abbrev pub IsBelow : ℕ → ValueId → Type 0
IsBelow count v = v.0 < count

-- operands that end take away what they held
abbrev pub AreEndsCounted : Type 0
AreEndsCounted = (weight : ObjectId → ℕ) (facts : ValueId → Option Facts) (ts : List Taken) (entries left : List Entry)
    → without_ended facts ts entries ≡ Ok left
    → in_entries weight left + of_references weight (references_ended facts entries ts) ≡ in_entries weight entries

-- results bring what they hold
abbrev pub AreBeginsCounted : Type 0
AreBeginsCounted = (weight : ObjectId → ℕ) (facts : ValueId → Option Facts) (vs : List ValueId) (xs : List Datum) (entries behind : List Entry)
    → results_put facts vs xs entries ≡ Ok behind → Each (IsBelow (length entries)) vs
    → in_entries weight behind ≡ in_entries weight entries + of_references weight (references_begun facts vs xs)
