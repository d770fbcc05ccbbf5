-- By which instruction a value is what it is to memory, in an accepted function.
use Rattle.std.proofs.Common.{◌≡◌, ◌⊎◌, inl, inr, ℕ, zero, suc, ◌<◌, ◌≤◌, List, [], ◌∷◌, length, map, refl, sym, ap, ◌∙◌, arith, Bool, true, false, not, ◌||◌, Option, Some, None}
use Rattle.std.specs.Prelude.{◌==◌, Contains, slice_get, unwrap_or}
use Rattle.std.proofs.lemmas.Bool.{cases_lt, false≢true, true≢false}
use Rattle.std.proofs.lemmas.List.{length-replicate}
use Rattle.std.proofs.lemmas.List.FromFn.{length-map-range_with_len}
use Rattle.std.proofs.lemmas.Option.{slice_get_past}
use Rattle.argument_conventions.specs.Arguments.{Told, arguments_of}
use Rattle.argument_conventions.specs.Rows.{address_row}
use Rattle.argument_conventions.specs.declared.row.AddressRow.{AddressRow}
use Rattle.instruction_table.specs.Forms.{number_of}
use Rattle.instruction_table.specs.declared.op.Op.{Op}
use Rattle.instruction_table.specs.declared.op.Op.TheVariants as op
use Rattle.sil_cfg_items.specs.Items.{arg_value}
use Rattle.sil_cfg_items.specs.Parts.{inst_at}
use Rattle.sil_verifier_trails.specs.memory_rules_accesses.Operations.{access_kind_of}
use Rattle.sil_verifier_trails.specs.memory_rules_accesses.Locations.{is_object}
use Rattle.sil_verifier_trails.specs.memory_rules_accesses.Sources.{arg_sources, argument_source_or, borrow_source, element_place, field_source, handed_source}
use Rattle.sil_verifier_trails.specs.memory_rules_accesses.Sources.{is_trivial_member, loan_source, member_place, object_source, part_source}
use Rattle.sil_verifier_trails.specs.memory_rules_accesses.Sources.{result_source, result_sources, slot_source, source_at, source_by, sources_of, upcast_source}
use Rattle.sil_verifier_trails.specs.memory_rules_accesses.declared.columns.AccessKind.{AccessKind}
use Rattle.sil_verifier_trails.specs.memory_rules_accesses.declared.columns.AccessKind.TheVariants as access
use Rattle.sil_verifier_trails.specs.memory_rules_accesses.declared.source.Source.{Source}
use Rattle.sil_verifier_trails.specs.memory_rules_accesses.declared.source.Source.TheVariants as source
use Rattle.numbered_form.specs.Numbering.{values_of}
use Rattle.sil_ast.specs.Blocks.{args_of}
use Rattle.sil_ast.specs.declared.function.BlockArg.{BlockArg}
use Rattle.sil_ast.specs.declared.function.Function.{Function}
use Rattle.sil_ast.specs.declared.inst.Inst.{Inst}
use Rattle.sil_ast.specs.declared.module.Module.{Module}
use Rattle.sil_ast.specs.declared.place.PointId.{PointId}
use Rattle.sil_ast.specs.declared.place.ValueId.{ValueId}
use Rattle.sil_ast.specs.declared.type_name.TypeName.{TypeName}
use Rattle.sil_types.specs.Typing.Shapes.{is_trivial_object}
use Rattle.sil_types_declarations.specs.TypeDefinitions.Declarations.{Declarations, declarations_of}
use Rattle.numbered_form.proofs.ValueTables.Rows.{rows_count}
use Rattle.numbered_form.specs.ValueTables.FirstValue.{first_value}
use Rattle.sil_verifier_trails.specs.sil_verifier_values.inner.Known.{IsAcceptedBody}
use Rattle.sil_verifier_trails.specs.sil_verifier_values.inner.Making.{IsMadeAt, argument, parameter, result}
use Rattle.sil_verifier_trails.specs.sil_verifier_values.inner.Rows.{source_of_argument}
use Rattle.sil_verifier_trails.proofs.sil_verifier_values.Counted.{stands}
use Rattle.sil_verifier_trails.proofs.sil_verifier_values.Made.{made_somewhere}
use Rattle.sil_verifier_trails.proofs.sil_verifier_values.TableRows.{argument_rows, result_rows}
use Rattle.sil_cfg.specs.inner.Splice.{Stop}
use Rattle.copy_pairing_acceptance.proofs.LentFunctions.Insts.{op_is}
use Rattle.copy_pairing_acceptance.proofs.LentMemory.Copied.{place}

-- an argument is none of these, nor is a value that is nothing to memory
abbrev pub is_by_inst : Source → Bool
is_by_inst (source.Slot trivial) = true
is_by_inst (source.Argument row trivial) = false
is_by_inst (source.Object fields) = true
is_by_inst (source.Borrow of) = true
is_by_inst (source.Upcast of) = true
is_by_inst (source.Loan of) = true
is_by_inst (source.Field of k trivial) = true
is_by_inst (source.Part of k) = true
is_by_inst source.Other = false

handed_not : (trivial : Bool) (row : Option AddressRow) → is_by_inst (handed_source trivial row) ≡ false
handed_not trivial None = refl
handed_not trivial (Some row) = refl

pub argument_not : (d : Declarations) (f : Function) (b k : ℕ) → is_by_inst (source_of_argument d f b k) ≡ false
argument_not d f zero k = at (slice_get (arguments_of f.signature) k)
  where
    at : (o : Option Told) → is_by_inst (argument_source_or d o) ≡ false
    at None = refl
    at (Some t) = handed_not (is_trivial_object d t.ty) (address_row t.convention)
argument_not d f (suc b) k = refl

module _ (m : Module) (n : ℕ) (f : Function) (a : IsAcceptedBody m n f) where
  -- a result that the value is, of an instruction
  pub record IsResultOf (w : ValueId) : Type 0 where
    pub point : PointId
    pub inst : Inst
    pub there : inst_at f point ≡ Some inst
    pub number : ℕ
    pub is : slice_get inst.results number ≡ Some w
    pub source_is : source_at (sources_of (declarations_of m) f) w ≡ result_source (declarations_of m) inst

  args_long : (b : ℕ) (xs : List BlockArg) → length (arg_sources (declarations_of m) f.signature b xs) ≡ length xs
  args_long zero xs = length-map-range_with_len (λ k. argument_source_or (declarations_of m) (slice_get (arguments_of f.signature) k)) 0 (length xs)
  args_long (suc b) xs = length-replicate (length xs) source.Other

  as_many : length (sources_of (declarations_of m) f) ≡ length (values_of f.blocks)
  as_many =
      rows_count (arg_sources (declarations_of m) f.signature) (result_sources (declarations_of m)) args_long
      (λ i. length-replicate (length i.results) (result_source (declarations_of m) i)) 0 f.blocks

  argument_there : (b k : ℕ) (xs : List BlockArg) (w : ValueId) → slice_get (map arg_value xs) k ≡ Some w → (x : BlockArg) × (slice_get xs k ≡ Some x) × (x.value ≡ w)
  argument_there b k [] w e = cc
  argument_there b zero (x ∷ xs) w e = (x, refl, cc)
  argument_there b (suc k) (x ∷ xs) w e = argument_there b k xs w e

  pub argument_so : (b : ℕ) (w : ValueId) → Contains (map arg_value (args_of f b)) w → is_by_inst (source_at (sources_of (declarations_of m) f) w) ≡ false
  argument_so b w c =
      let s = stands (map arg_value (args_of f b)) w c in
      let x = argument_there b s.0 (args_of f b) w s.1 in
      ap (λ u. is_by_inst (source_at (sources_of (declarations_of m) f) u)) (sym x.2)
      ∙ ap is_by_inst (argument_rows m n f a b s.0 x.0 x.1).source ∙ argument_not (declarations_of m) f b s.0

  pub result_so : (p : PointId) (i : Inst) (w : ValueId) → inst_at f p ≡ Some i → Contains i.results w → IsResultOf w
  result_so p i w e c =
      let s = stands i.results w c in
      record {
        point = p;
        inst = i;
        there = e;
        number = s.0;
        is = s.1;
        source_is = (result_rows m n f a p.block.0 p.index s.0 i w (place m n f a p i e) s.1).source;
      }

  made_so : (w : ValueId) (s : Stop) → IsMadeAt f w s → is_by_inst (source_at (sources_of (declarations_of m) f) w) ≡ true → IsResultOf w
  made_so w _ (result p i e c) so = result_so p i w e c
  made_so w _ (parameter c) so = absurd (true≢false (sym so ∙ argument_so 0 w c))
  made_so w _ (argument b lt c) so = absurd (true≢false (sym so ∙ argument_so b w c))

  pub result_of : (w : ValueId) → is_by_inst (source_at (sources_of (declarations_of m) f) w) ≡ true → IsResultOf w
  result_of w so = at (cases_lt w.0 (length (values_of f.blocks)))
    where
      at : (w.0 < length (values_of f.blocks)) ⊎ (length (values_of f.blocks) ≤ w.0) → IsResultOf w
      at (inl lt) = let s = made_somewhere m n f a w lt in made_so w s.0 s.1 so
      at (inr le) =
          let many : length (sources_of (declarations_of m) f) ≡ length (values_of f.blocks) = as_many in
          let none : source_at (sources_of (declarations_of m) f) w ≡ source.Other = ap (λ o. unwrap_or o source.Other) (slice_get_past (sources_of (declarations_of m) f) w.0 (omega arith)) in
          absurd (true≢false (sym so ∙ ap is_by_inst none))

-- ---- the rows that make new objects, upcasts and addresses of fields

abbrev allocates_object : AccessKind → Bool
allocates_object access.AllocatesObject = true
allocates_object _ = false

abbrev upcasts : AccessKind → Bool
upcasts access.Upcasts = true
upcasts _ = false

abbrev names_field : AccessKind → Bool
names_field access.NamesField = true
names_field _ = false

-- by computation, over all rows
object_rows : (o : Op) → (not (allocates_object (access_kind_of o)) || (number_of o == number_of op.AllocRef)) ≡ true
object_rows op.IntegerLiteral = refl
object_rows _ = refl

upcast_rows : (o : Op) → (not (upcasts (access_kind_of o)) || (number_of o == number_of op.Upcast)) ≡ true
upcast_rows op.IntegerLiteral = refl
upcast_rows _ = refl

field_rows : (o : Op) → (not (names_field (access_kind_of o)) || (number_of o == number_of op.RefElementAddr)) ≡ true
field_rows op.IntegerLiteral = refl
field_rows _ = refl

abbrev code : Source → ℕ
code (source.Slot trivial) = 0
code (source.Argument row trivial) = 1
code (source.Object fields) = 2
code (source.Borrow of) = 3
code (source.Upcast of) = 4
code (source.Loan of) = 5
code (source.Field of k trivial) = 6
code (source.Part of k) = 7
code source.Other = 8

abbrev kind_code : AccessKind → ℕ
kind_code access.NoAccess = 8
kind_code access.AllocatesSlot = 0
kind_code access.AllocatesObject = 2
kind_code access.DeallocatesSlot = 8
kind_code access.LendsValue = 3
kind_code access.Upcasts = 4
kind_code access.LendsLocation = 5
kind_code access.NamesField = 6
kind_code access.NamesMember = 7
kind_code access.NamesElement = 7
kind_code access.Loads = 8
kind_code access.Stores = 8
kind_code access.Destroys = 8
kind_code access.Passes = 8

abbrev Codes : ℕ → ℕ → Type 0
Codes x y = (x ≡ y) ⊎ (x ≡ 8)

slot_codes : (d : Declarations) (o : Option TypeName) → Codes (code (slot_source d o)) 0
slot_codes d None = inr refl
slot_codes d (Some t) = inl refl

object_codes : (d : Declarations) (o : Option TypeName) → Codes (code (object_source d o)) 2
object_codes d None = inr refl
object_codes d (Some t) = inl refl

borrow_codes : (o : Option ValueId) → Codes (code (borrow_source o)) 3
borrow_codes None = inr refl
borrow_codes (Some v) = inl refl

upcast_codes : (o : Option ValueId) → Codes (code (upcast_source o)) 4
upcast_codes None = inr refl
upcast_codes (Some v) = inl refl

loan_codes : (o : Option ValueId) → Codes (code (loan_source o)) 5
loan_codes None = inr refl
loan_codes (Some v) = inl refl

field_codes : (o : Option ValueId) (k : Option ℕ) (trivial : Bool) → Codes (code (field_source o k trivial)) 6
field_codes None k trivial = inr refl
field_codes (Some v) None trivial = inr refl
field_codes (Some v) (Some k) trivial = inl refl

part_codes : (o : Option ValueId) (k : Option ℕ) → Codes (code (part_source o k)) 7
part_codes None k = inr refl
part_codes (Some v) None = inr refl
part_codes (Some v) (Some k) = inl refl

row_codes : (k : AccessKind) (d : Declarations) (i : Inst) → Codes (code (source_by k d i)) (kind_code k)
row_codes access.NoAccess d i = inr refl
row_codes access.AllocatesSlot d i = slot_codes d i.ty
row_codes access.AllocatesObject d i = object_codes d i.ty
row_codes access.DeallocatesSlot d i = inr refl
row_codes access.LendsValue d i = borrow_codes (first_value i)
row_codes access.Upcasts d i = upcast_codes (first_value i)
row_codes access.LendsLocation d i = loan_codes (first_value i)
row_codes access.NamesField d i = field_codes (first_value i) (member_place d i.member) (is_trivial_member d i.member)
row_codes access.NamesMember d i = part_codes (first_value i) (member_place d i.member)
row_codes access.NamesElement d i = part_codes (first_value i) (element_place i.number)
row_codes access.Loads d i = inr refl
row_codes access.Stores d i = inr refl
row_codes access.Destroys d i = inr refl
row_codes access.Passes d i = inr refl

code_of_row : (d : Declarations) (i : Inst) (x : ℕ) → code (result_source d i) ≡ x → (x ≡ 8 → ⊥) → kind_code (access_kind_of i.op) ≡ x
code_of_row d i x e some = at (row_codes (access_kind_of i.op) d i)
  where
    at : Codes (code (result_source d i)) (kind_code (access_kind_of i.op)) → kind_code (access_kind_of i.op) ≡ x
    at (inl same) = sym same ∙ e
    at (inr other) = absurd (some (sym e ∙ other))

kind_two : (k : AccessKind) → kind_code k ≡ 2 → allocates_object k ≡ true
kind_two access.AllocatesObject e = refl
kind_two _ e = absurd (omega arith)

kind_four : (k : AccessKind) → kind_code k ≡ 4 → upcasts k ≡ true
kind_four access.Upcasts e = refl
kind_four _ e = absurd (omega arith)

kind_six : (k : AccessKind) → kind_code k ≡ 6 → names_field k ≡ true
kind_six access.NamesField e = refl
kind_six _ e = absurd (omega arith)

implied : (a b : Bool) → a ≡ true → (not a || b) ≡ true → b ≡ true
implied true b h e = e
implied false b h e = absurd (false≢true h)

pub object_row : (d : Declarations) (i : Inst) → is_object (result_source d i) ≡ true → i.op ≡ op.AllocRef
object_row d i e =
    op_is op.AllocRef i
    (implied (allocates_object (access_kind_of i.op)) (number_of i.op == number_of op.AllocRef)
    (kind_two (access_kind_of i.op) (code_of_row d i 2 (two (result_source d i) e) (λ (e : 2 ≡ 8). omega arith))) (object_rows i.op))
  where
    two : (s : Source) → is_object s ≡ true → code s ≡ 2
    two (source.Object fields) e = refl
    two _ e = absurd (false≢true e)

pub upcast_row : (d : Declarations) (i : Inst) (c : ValueId) → result_source d i ≡ source.Upcast c → (i.op ≡ op.Upcast) × (first_value i ≡ Some c)
upcast_row d i c e = (is, at (first_value i) (sym (ap (λ (o : Op). source_by (access_kind_of o) d i) is) ∙ e))
  where
    is : i.op ≡ op.Upcast
    is =
        op_is op.Upcast i
        (implied (upcasts (access_kind_of i.op)) (number_of i.op == number_of op.Upcast)
        (kind_four (access_kind_of i.op) (code_of_row d i 4 (ap code e) (λ (e : 4 ≡ 8). omega arith))) (upcast_rows i.op))

    at : (o : Option ValueId) → upcast_source o ≡ source.Upcast c → o ≡ Some c
    at None e = cc
    at (Some w) e = let same : w ≡ c = cc in ap (λ u. Some u) same

pub field_row : (d : Declarations) (i : Inst) (c : ValueId) (k : ℕ) (trivial : Bool) → result_source d i ≡ source.Field c k trivial → (i.op ≡ op.RefElementAddr) × (first_value i ≡ Some c)
field_row d i c k trivial e =
    (is, at (first_value i) (member_place d i.member) (is_trivial_member d i.member) (sym (ap (λ (o : Op). source_by (access_kind_of o) d i) is) ∙ e))
  where
    is : i.op ≡ op.RefElementAddr
    is =
        op_is op.RefElementAddr i
        (implied (names_field (access_kind_of i.op)) (number_of i.op == number_of op.RefElementAddr)
        (kind_six (access_kind_of i.op) (code_of_row d i 6 (ap code e) (λ (e : 6 ≡ 8). omega arith))) (field_rows i.op))

    at : (o : Option ValueId) (l : Option ℕ) (b : Bool) → field_source o l b ≡ source.Field c k trivial → o ≡ Some c
    at None l b e = cc
    at (Some w) None b e = cc
    at (Some w) (Some l) b e = let same : w ≡ c = cc in ap (λ u. Some u) same
