-- Operands that an item takes, in entries that are as their kinds ask.
use Rattle.std.specs.Prelude.{◌≡◌, List, Option, Some, Ok}
use Rattle.sil_cfg_items.specs.declared.taken.Taken.{Taken}
use Rattle.ownership_kinds_chains.specs.OwnershipChains.Facts.{known_or}
use Rattle.ownership_kinds_chains.specs.declared.ownership_chains.facts.Facts.{Facts}
use Rattle.sil_ast.specs.declared.place.ValueId.{ValueId}
use Rattle.sil_types_declarations.specs.declared.type_definitions.kind.Kind.{Kind}
use Rattle.sil_types_declarations.specs.declared.type_definitions.kind.Kind.TheVariants as kind
use Rattle.sil_verifier_runs.specs.holder_model.Data.{Datum}
use Rattle.sil_verifier_runs.specs.holder_model.Frames.{Entry, datum_in, entry_at, made_entry}
use Rattle.sil_verifier_runs.proofs.sil_verifier_frames.Typed.Data.{IsBare}

module _ (facts : ValueId → Option Facts) (entries : List Entry) where
  abbrev pub kind_in : ValueId → Kind
  kind_in v = (known_or facts v).kind

  -- the operand's entry is there, as its kind asks, and this is its datum
  pub record IsTakenAs (t : Taken) (x : Datum) : Type 0 where
    pub datum : Datum
    pub made : made_entry (kind_in t.value) datum ≡ Ok (entry_at entries t.value)
    pub there : datum_in (entry_at entries t.value) ≡ Some x
    pub bare : kind_in t.value ≡ kind.Plain → IsBare x
