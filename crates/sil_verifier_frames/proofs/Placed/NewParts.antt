-- What results name: a member of an address names its part, the address of a field no place on the stack, and other results neither.
use Rattle.std.proofs.Common.{◌≡◌, ℕ, List, Bool, true, false, Option, Some, None, refl, sym, ap, ◌∙◌}
use Rattle.std.proofs.lemmas.Bool.{true≢false}
use Rattle.holder_model_laws.specs.holder_model.Effects.{effect_of}
use Rattle.holder_model_laws.specs.holder_model.Frames.{Entry}
use Rattle.holder_model_laws.specs.holder_model.declared.row_effect.RowEffect.{RowEffect}
use Rattle.holder_model_laws.specs.holder_model.declared.row_effect.RowEffect.TheVariants as row
use Rattle.holder_model_laws.specs.memory_rules_accesses.Operations.{access_kind_of}
use Rattle.holder_model_laws.specs.memory_rules_accesses.Sources.{borrow_source, loan_source, object_source, slot_source}
use Rattle.holder_model_laws.specs.memory_rules_accesses.Sources.{source_at, source_by, sources_of, upcast_source}
use Rattle.holder_model_laws.specs.memory_rules_accesses.declared.columns.AccessKind.{AccessKind}
use Rattle.holder_model_laws.specs.memory_rules_accesses.declared.columns.AccessKind.TheVariants as access
use Rattle.holder_model_laws.specs.memory_rules_accesses.declared.source.Source.{Source}
use Rattle.holder_model_laws.specs.memory_rules_accesses.declared.source.Source.TheVariants as source
use Rattle.sil_verifier_trails.specs.sil_verifier_values.inner.Known.{IsAcceptedBody}
use Rattle.instruction_table.specs.declared.op.Op.{Op}
use Rattle.instruction_table.specs.declared.op.Op.TheVariants as op
use Rattle.sil_cfg_items.specs.Parts.{inst_at}
use Rattle.sil_verifier_trails.proofs.PlacedValues.RootsTold.{begun_told, results_told}
use Rattle.sil_ast.specs.declared.function.Function.{Function}
use Rattle.sil_ast.specs.declared.inst.Inst.{Inst}
use Rattle.sil_ast.specs.declared.module.Module.{Module}
use Rattle.sil_ast.specs.declared.place.PointId.{PointId}
use Rattle.sil_ast.specs.declared.place.ValueId.{ValueId}
use Rattle.sil_ast.specs.declared.type_name.TypeName.{TypeName}
use Rattle.sil_cfg.specs.declared.item.Item.{Item}
use Rattle.sil_cfg.specs.declared.item.Item.TheVariants as item
use Rattle.sil_types_declarations.specs.TypeDefinitions.Declarations.{Declarations, declarations_of}
use Rattle.sil_verifier_frames.specs.inner.Placed.PartsNamed.{AreNewNamed}
use Rattle.sil_verifier_frames.specs.inner.Placed.Premises.{AreCallsNamed, AreEdgesNamed}
use Rattle.sil_verifier_frames.proofs.Placed.Quiet.{IsInner, field, member, none_named}

-- ---- sources

abbrev pub is_inner_source : Source → Bool
is_inner_source (source.Field of k trivial) = true
is_inner_source (source.Part of k) = true
is_inner_source s = false

-- the row names a member, or a field
abbrev pub is_inner_kind : AccessKind → Bool
is_inner_kind access.NamesField = true
is_inner_kind access.NamesMember = true
is_inner_kind access.NamesElement = true
is_inner_kind k = false

inner_source : (sources : List Source) (v : ValueId) → IsInner sources v → is_inner_source (source_at sources v) ≡ true
inner_source sources v (member x) = ap is_inner_source x.source
inner_source sources v (field of k trivial is) = ap is_inner_source is

other_source : (k : AccessKind) (d : Declarations) (i : Inst) → is_inner_kind k ≡ false → is_inner_source (source_by k d i) ≡ false
other_source access.NoAccess d i e = refl
other_source access.AllocatesSlot d i e = at i.ty
  where
    at : (t : Option TypeName) → is_inner_source (slot_source d t) ≡ false
    at None = refl
    at (Some t) = refl
other_source access.AllocatesObject d i e = at i.ty
  where
    at : (t : Option TypeName) → is_inner_source (object_source d t) ≡ false
    at None = refl
    at (Some t) = refl
other_source access.DeallocatesSlot d i e = refl
other_source access.LendsValue d i e = at _
  where
    at : (v : Option ValueId) → is_inner_source (borrow_source v) ≡ false
    at None = refl
    at (Some v) = refl
other_source access.Upcasts d i e = at _
  where
    at : (v : Option ValueId) → is_inner_source (upcast_source v) ≡ false
    at None = refl
    at (Some v) = refl
other_source access.LendsLocation d i e = at _
  where
    at : (v : Option ValueId) → is_inner_source (loan_source v) ≡ false
    at None = refl
    at (Some v) = refl
other_source access.NamesField d i e = absurd (true≢false e)
other_source access.NamesMember d i e = absurd (true≢false e)
other_source access.NamesElement d i e = absurd (true≢false e)
other_source access.Loads d i e = refl
other_source access.Stores d i e = refl
other_source access.Destroys d i e = refl
other_source access.Passes d i e = refl

abbrev pub names_inner : RowEffect → Bool
names_inner row.AddressesMember = true
names_inner row.AddressesField = true
names_inner r = false

other_kind : (o : Op) → names_inner (effect_of o) ≡ false → is_inner_kind (access_kind_of o) ≡ false
other_kind op.RefElementAddr e = absurd (true≢false e)
other_kind op.StructElementAddr e = absurd (true≢false e)
other_kind op.TupleElementAddr e = absurd (true≢false e)
other_kind o e = refl

-- ---- rows and edges that name neither

-- an instruction of another row
pub others_named : (m : Module) (n : ℕ) (f : Function) → IsAcceptedBody m n f → (t : List Item) (p : PointId) (x : Inst) → inst_at f p ≡ Some x
    → names_inner (effect_of x.op) ≡ false → (old new : List Entry) → AreNewNamed (sources_of (declarations_of m) f) f t (item.Inst p) old new
others_named m n f a t p x there other old new =
    none_named (sources_of (declarations_of m) f) f t (item.Inst p) old new (λ v made inner.
    true≢false (sym (inner_source (sources_of (declarations_of m) f) v inner)
    ∙ ap is_inner_source (results_told m n f a p x there v made)
    ∙ other_source (access_kind_of x.op) (declarations_of m) x (other_kind x.op other)))

pub calls_named : AreCallsNamed
calls_named m n f a t p x there calling old new = others_named m n f a t p x there (ap names_inner calling) old new

pub edges_named : AreEdgesNamed
edges_named m n f a t e old new =
    none_named (sources_of (declarations_of m) f) f t (item.Edge e) old new (λ v made inner.
    true≢false (sym (inner_source (sources_of (declarations_of m) f) v inner) ∙ ap is_inner_source (begun_told m n f a e v made)))
