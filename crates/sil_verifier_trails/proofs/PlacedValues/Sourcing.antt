-- What results and arguments are to memory: a slot comes of one row alone, and no result is an argument.
use Rattle.std.proofs.Common.{◌≡◌, inl, inr, ℕ, zero, suc, List, [], ◌∷◌, refl, sym, ap, Bool, true, false, ◌||◌, Option, Some, None, eq-eqb}
use Rattle.std.specs.Prelude.{◌==◌, slice_get}
use Rattle.std.proofs.lemmas.Bool.{false≢true}
use Rattle.argument_conventions.specs.Arguments.{Told, arguments_of}
use Rattle.argument_conventions.specs.Rows.{address_row}
use Rattle.argument_conventions.specs.declared.row.AddressRow.{AddressRow}
use Rattle.sil_verifier_values.specs.memory_rules_accesses.Sources.{argument_source_or, borrow_source, element_place, field_source, handed_source, is_slot_source, is_trivial_member}
use Rattle.sil_verifier_values.specs.memory_rules_accesses.Sources.{loan_source, member_place, object_source, part_source, slot_source, source_by, upcast_source}
use Rattle.sil_verifier_values.specs.memory_rules_accesses.declared.columns.AccessKind.{AccessKind}
use Rattle.sil_verifier_values.specs.memory_rules_accesses.declared.columns.AccessKind.TheVariants as access
use Rattle.sil_verifier_values.specs.memory_rules_accesses.declared.source.Source.{Source}
use Rattle.sil_verifier_values.specs.memory_rules_accesses.declared.source.Source.TheVariants as source
use Rattle.sil_verifier_trails.proofs.AcceptedTrails.Tests.{or_right}
use Rattle.sil_verifier_values.specs.inner.Rows.{source_of_argument}
use Rattle.sil_verifier_values.specs.ownership_kinds_chains.OwnershipChains.Facts.{has}
use Rattle.numbered_form.proofs.PointChecks.Among.{Among}
use Rattle.sil_ast.specs.declared.function.Function.{Function}
use Rattle.sil_ast.specs.declared.inst.Inst.{Inst}
use Rattle.sil_ast.specs.declared.place.ValueId.{ValueId}
use Rattle.sil_ast.specs.declared.type_name.TypeName.{TypeName}
use Rattle.sil_verifier_values.specs.sil_types_declarations.TypeDefinitions.Declarations.{Declarations}
use Rattle.numbered_form.specs.ValueTables.FirstValue.{first_value}
use Rattle.sil_verifier_trails.proofs.AcceptedPlaces.ItemStacks.{opens_no_slot}

-- ---- slots

part_no_slot : (o : Option ValueId) (k : Option ℕ) → is_slot_source (part_source o k) ≡ false
part_no_slot None k = refl
part_no_slot (Some v) None = refl
part_no_slot (Some v) (Some k) = refl

field_no_slot : (o : Option ValueId) (k : Option ℕ) (trivial : Bool) → is_slot_source (field_source o k trivial) ≡ false
field_no_slot None k trivial = refl
field_no_slot (Some v) None trivial = refl
field_no_slot (Some v) (Some k) trivial = refl

borrow_no_slot : (o : Option ValueId) → is_slot_source (borrow_source o) ≡ false
borrow_no_slot None = refl
borrow_no_slot (Some v) = refl

upcast_no_slot : (o : Option ValueId) → is_slot_source (upcast_source o) ≡ false
upcast_no_slot None = refl
upcast_no_slot (Some v) = refl

loan_no_slot : (o : Option ValueId) → is_slot_source (loan_source o) ≡ false
loan_no_slot None = refl
loan_no_slot (Some v) = refl

object_no_slot : (d : Declarations) (o : Option TypeName) → is_slot_source (object_source d o) ≡ false
object_no_slot d None = refl
object_no_slot d (Some t) = refl

pub result_no_slot : (k : AccessKind) (d : Declarations) (i : Inst) → opens_no_slot k ≡ true → is_slot_source (source_by k d i) ≡ false
result_no_slot access.NoAccess d i e = refl
result_no_slot access.AllocatesSlot d i e = absurd (false≢true e)
result_no_slot access.AllocatesObject d i e = object_no_slot d i.ty
result_no_slot access.DeallocatesSlot d i e = refl
result_no_slot access.LendsValue d i e = borrow_no_slot (first_value i)
result_no_slot access.Upcasts d i e = upcast_no_slot (first_value i)
result_no_slot access.LendsLocation d i e = loan_no_slot (first_value i)
result_no_slot access.NamesField d i e = field_no_slot (first_value i) (member_place d i.member) (is_trivial_member d i.member)
result_no_slot access.NamesMember d i e = part_no_slot (first_value i) (member_place d i.member)
result_no_slot access.NamesElement d i e = part_no_slot (first_value i) (element_place i.number)
result_no_slot access.Loads d i e = refl
result_no_slot access.Stores d i e = refl
result_no_slot access.Destroys d i e = refl
result_no_slot access.Passes d i e = refl

handed_no_slot : (trivial : Bool) (o : Option AddressRow) → is_slot_source (handed_source trivial o) ≡ false
handed_no_slot trivial None = refl
handed_no_slot trivial (Some row) = refl

told_no_slot : (d : Declarations) (o : Option Told) → is_slot_source (argument_source_or d o) ≡ false
told_no_slot d None = refl
told_no_slot d (Some a) = handed_no_slot _ (address_row a.convention)

pub argument_no_slot : (d : Declarations) (f : Function) (b k : ℕ) → is_slot_source (source_of_argument d f b k) ≡ false
argument_no_slot d f zero k = told_no_slot d (slice_get (arguments_of f.signature) k)
argument_no_slot d f (suc b) k = refl

-- ---- arguments

abbrev pub is_argument : Source → Bool
is_argument (source.Argument row trivial) = true
is_argument _ = false

field_none : (o : Option ValueId) (k : Option ℕ) (b : Bool) → is_argument (field_source o k b) ≡ false
field_none None k b = refl
field_none (Some v) None b = refl
field_none (Some v) (Some k) b = refl

part_none : (o : Option ValueId) (k : Option ℕ) → is_argument (part_source o k) ≡ false
part_none None k = refl
part_none (Some v) None = refl
part_none (Some v) (Some k) = refl

slot_none : (d : Declarations) (o : Option TypeName) → is_argument (slot_source d o) ≡ false
slot_none d None = refl
slot_none d (Some t) = refl

object_none : (d : Declarations) (o : Option TypeName) → is_argument (object_source d o) ≡ false
object_none d None = refl
object_none d (Some t) = refl

borrow_none : (o : Option ValueId) → is_argument (borrow_source o) ≡ false
borrow_none None = refl
borrow_none (Some v) = refl

upcast_none : (o : Option ValueId) → is_argument (upcast_source o) ≡ false
upcast_none None = refl
upcast_none (Some v) = refl

loan_none : (o : Option ValueId) → is_argument (loan_source o) ≡ false
loan_none None = refl
loan_none (Some v) = refl

pub result_none : (k : AccessKind) (d : Declarations) (i : Inst) → is_argument (source_by k d i) ≡ false
result_none access.NoAccess d i = refl
result_none access.AllocatesSlot d i = slot_none d i.ty
result_none access.AllocatesObject d i = object_none d i.ty
result_none access.DeallocatesSlot d i = refl
result_none access.LendsValue d i = borrow_none (first_value i)
result_none access.Upcasts d i = upcast_none (first_value i)
result_none access.LendsLocation d i = loan_none (first_value i)
result_none access.NamesField d i = field_none (first_value i) (member_place d i.member) (is_trivial_member d i.member)
result_none access.NamesMember d i = part_none (first_value i) (member_place d i.member)
result_none access.NamesElement d i = part_none (first_value i) (element_place i.number)
result_none access.Loads d i = refl
result_none access.Stores d i = refl
result_none access.Destroys d i = refl
result_none access.Passes d i = refl

-- ---- what is in a list has its number there

pub has_contained : (vs : List ValueId) (v : ValueId) → Among v vs → has vs v.0 ≡ true
has_contained [] v h = absurd h
has_contained (w ∷ vs) v (inl same) = ap (λ b. b || has vs v.0) (eq-eqb w.0 v.0 (ap (λ (x : ValueId). x.0) (sym same)))
has_contained (w ∷ vs) v (inr more) = or_right (w.0 == v.0) (has vs v.0) (has_contained vs v more)
