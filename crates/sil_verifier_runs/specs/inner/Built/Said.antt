-- What the trails of a function say of its new objects.
use Rattle.std.specs.Prelude.{ℕ, List, Bool, false, cond, nat_lt, None}
use Rattle.sil_verifier_frames.specs.sil_verifier_trails.AcceptedTrails.inner.Defined.{makes}
use Rattle.sil_verifier_frames.specs.memory_rules_accesses.Sources.{source_at, sources_of}
use Rattle.sil_verifier_frames.specs.memory_rules_accesses.declared.source.Source.{Source}
use Rattle.sil_verifier_frames.specs.memory_rules_accesses.declared.source.Source.TheVariants as source
use Rattle.sil_verifier_frames.specs.memory_rules_parts.declared.part.Part.TheVariants.{Building}
use Rattle.sil_verifier_frames.specs.sil_verifier_trails.RunTrails.inner.Since.{is_none_since}
use Rattle.sil_verifier_frames.specs.sil_verifier_trails.AcceptedMemory.inner.PartTrails.{is_on}
use Rattle.sil_verifier_frames.specs.holder_model_laws.HolderLaws.inner.Built.Building.{IsUnfinished, Progress}
use Rattle.sil_ast.specs.declared.function.Function.{Function}
use Rattle.sil_ast.specs.declared.module.Module.{Module}
use Rattle.sil_ast.specs.declared.place.ValueId.{ValueId}
use Rattle.sil_cfg.specs.declared.item.Item.{Item}
use Rattle.sil_types_declarations.specs.TypeDefinitions.Declarations.{Declarations, declarations_of}

-- the number is that of a field of a new object
abbrev pub has_new_field : Source → ℕ → Bool
has_new_field (source.Slot trivial) k = false
has_new_field (source.Argument row trivial) k = false
has_new_field (source.Object fields) k = nat_lt k fields
has_new_field (source.Borrow of) k = false
has_new_field (source.Upcast of) k = false
has_new_field (source.Loan of) k = false
has_new_field (source.Field of j trivial) k = false
has_new_field (source.Part of j) k = false
has_new_field source.Other k = false

-- a field is to be written while its building is on, and an object is the one of which a value was made while none has been made since
abbrev pub said_in : Declarations → Function → List Item → Progress
said_in d f t = record {
  unwritten = λ object k. cond (has_new_field (source_at (sources_of d f) object) k) (is_on d f (Building object k) t) None;
  as_made = λ object v. is_none_since (makes f object) (makes f v) t;
}

abbrev pub said : Module → Function → List Item → Progress
said m f t = said_in (declarations_of m) f t

-- the object has a field that is to be written where the trail has come to
abbrev pub IsUnfinishedOn : Declarations → Function → List Item → ValueId → Type 0
IsUnfinishedOn d f t object = IsUnfinished (sources_of d f) (said_in d f t) object
