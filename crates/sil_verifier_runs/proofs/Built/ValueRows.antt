-- The instruction that makes a value, by what the value is to memory: which one it is, and what it takes.
use Rattle.std.proofs.Common.{◌≡◌, ◌⊎◌, inl, inr, ℕ, zero, suc, List, length, refl, sym, ap, ◌∙◌, arith, Bool, true, false, Option, Some, None}
use Rattle.std.specs.Prelude.{slice_get}
use Rattle.std.proofs.lemmas.Bool.{false≢true}
use Rattle.std.proofs.lemmas.List.{length-replicate}
use Rattle.std.proofs.lemmas.List.FromFn.{length-map-range_with_len}
use Rattle.std.proofs.lemmas.Option.{get_or_from_slice_get, slice_get_within}
use Rattle.argument_conventions.specs.Arguments.{Told, arguments_of}
use Rattle.argument_conventions.specs.Rows.{address_row}
use Rattle.argument_conventions.specs.declared.row.AddressRow.{AddressRow}
use Rattle.instruction_table.specs.declared.op.Op.{Op}
use Rattle.instruction_table.specs.declared.op.Op.TheVariants as op
use Rattle.sil_verifier_frames.specs.memory_rules_accesses.Operations.{access_kind_of}
use Rattle.sil_verifier_frames.specs.memory_rules_accesses.Sources.{arg_sources, argument_source_or, borrow_source, element_place, field_source, handed_source, is_trivial_member}
use Rattle.sil_verifier_frames.specs.memory_rules_accesses.Sources.{loan_source, member_place, object_source, part_source, result_source, result_sources, slot_source}
use Rattle.sil_verifier_frames.specs.memory_rules_accesses.Sources.{source_at, source_by, sources_of, upcast_source}
use Rattle.sil_verifier_frames.specs.memory_rules_accesses.declared.columns.AccessKind.{AccessKind}
use Rattle.sil_verifier_frames.specs.memory_rules_accesses.declared.columns.AccessKind.TheVariants as access
use Rattle.sil_verifier_frames.specs.memory_rules_accesses.declared.source.Source.{Source}
use Rattle.sil_verifier_frames.specs.memory_rules_accesses.declared.source.Source.TheVariants as source
use Rattle.sil_verifier_frames.proofs.sil_verifier_trails.AcceptedPlaces.PartsThere.{has_row}
use Rattle.sil_verifier_frames.specs.sil_verifier_values.inner.Known.{IsAcceptedBody, IsValue}
use Rattle.sil_verifier_frames.specs.sil_verifier_values.inner.Rows.{IsResult, source_of_argument}
use Rattle.sil_verifier_frames.proofs.sil_verifier_values.Accepted.{in_ownership_form, well_typed}
use Rattle.sil_verifier_frames.proofs.sil_verifier_values.Defined.{IsDefined, a_result, an_argument, defined_so}
use Rattle.sil_verifier_frames.proofs.sil_verifier_values.Made.{at_point_of_result}
use Rattle.sil_verifier_frames.proofs.sil_verifier_values.TableRows.{argument_rows, result_rows}
use Rattle.numbered_form.specs.Numbering.{values_of}
use Rattle.sil_verifier_frames.specs.holder_model_typing.OwnedRunTyping.inner.OwnedTyped.{OwnedInst}
use Rattle.sil_verifier_frames.proofs.holder_model_typing.OwnedRunTyping.OwnedInsts.{owned_inst}
use Rattle.numbered_form.specs.PointChecks.Points.{IsAt}
use Rattle.sil_ast.specs.declared.function.BlockArg.{BlockArg}
use Rattle.sil_ast.specs.declared.function.Function.{Function}
use Rattle.sil_ast.specs.declared.inst.Inst.{Inst}
use Rattle.sil_ast.specs.declared.module.Module.{Module}
use Rattle.sil_ast.specs.declared.place.ValueId.{ValueId}
use Rattle.sil_ast.specs.declared.type_name.TypeName.{TypeName}
use Rattle.sil_cfg.specs.Items.{point_at}
use Rattle.sil_types_declarations.specs.TypeDefinitions.Declarations.{Declarations, declarations_of}
use Rattle.numbered_form.specs.ValueTables.FirstValue.{first_value}
use Rattle.numbered_form.proofs.ValueTables.Rows.{rows_count}

-- ---- which access gives which source

abbrev pub access_of : Source → AccessKind
access_of (source.Slot trivial) = access.AllocatesSlot
access_of (source.Argument row trivial) = access.Passes
access_of (source.Object fields) = access.AllocatesObject
access_of (source.Borrow of) = access.LendsValue
access_of (source.Upcast of) = access.Upcasts
access_of (source.Loan of) = access.LendsLocation
access_of (source.Field of k trivial) = access.NamesField
access_of (source.Part of k) = access.NamesMember
access_of source.Other = access.NoAccess

-- elements are named as members are
abbrev pub as_member : AccessKind → AccessKind
as_member access.NamesElement = access.NamesMember
as_member k = k

abbrev GivesOther : AccessKind → Source → Type 0
GivesOther k s = (s ≡ source.Other) ⊎ (access_of s ≡ as_member k)

module _ (d : Declarations) where
  slot_gives : (o : Option TypeName) → GivesOther access.AllocatesSlot (slot_source d o)
  slot_gives None = inl refl
  slot_gives (Some t) = inr refl

  object_gives : (o : Option TypeName) → GivesOther access.AllocatesObject (object_source d o)
  object_gives None = inl refl
  object_gives (Some t) = inr refl

  borrow_gives : (o : Option ValueId) → GivesOther access.LendsValue (borrow_source o)
  borrow_gives None = inl refl
  borrow_gives (Some v) = inr refl

  upcast_gives : (o : Option ValueId) → GivesOther access.Upcasts (upcast_source o)
  upcast_gives None = inl refl
  upcast_gives (Some v) = inr refl

  loan_gives : (o : Option ValueId) → GivesOther access.LendsLocation (loan_source o)
  loan_gives None = inl refl
  loan_gives (Some v) = inr refl

  field_gives : (o : Option ValueId) (k : Option ℕ) (trivial : Bool) → GivesOther access.NamesField (field_source o k trivial)
  field_gives None k trivial = inl refl
  field_gives (Some v) None trivial = inl refl
  field_gives (Some v) (Some k) trivial = inr refl

  part_gives : (o : Option ValueId) (k : Option ℕ) → GivesOther access.NamesMember (part_source o k)
  part_gives None k = inl refl
  part_gives (Some v) None = inl refl
  part_gives (Some v) (Some k) = inr refl

  gives_source : (k : AccessKind) (i : Inst) → GivesOther k (source_by k d i)
  gives_source access.NoAccess i = inl refl
  gives_source access.AllocatesSlot i = slot_gives i.ty
  gives_source access.AllocatesObject i = object_gives i.ty
  gives_source access.DeallocatesSlot i = inl refl
  gives_source access.LendsValue i = borrow_gives (first_value i)
  gives_source access.Upcasts i = upcast_gives (first_value i)
  gives_source access.LendsLocation i = loan_gives (first_value i)
  gives_source access.NamesField i = field_gives (first_value i) (member_place d i.member) (is_trivial_member d i.member)
  gives_source access.NamesMember i = part_gives (first_value i) (member_place d i.member)
  gives_source access.NamesElement i = part_gives (first_value i) (element_place i.number)
  gives_source access.Loads i = inl refl
  gives_source access.Stores i = inl refl
  gives_source access.Destroys i = inl refl
  gives_source access.Passes i = inl refl

  -- the access by which the instruction makes what isn't `Other`
  source_access : (i : Inst) (s : Source) → result_source d i ≡ s → (s ≡ source.Other → ⊥) → as_member (access_kind_of i.op) ≡ access_of s
  source_access i s is some = by (gives_source (access_kind_of i.op) i)
    where
      by : GivesOther (access_kind_of i.op) (result_source d i) → as_member (access_kind_of i.op) ≡ access_of s
      by (inl none) = absurd (some (sym is ∙ none))
      by (inr e) = sym e ∙ ap access_of is

-- ---- which instruction does

allocates_object : (o : Op) → as_member (access_kind_of o) ≡ access.AllocatesObject → o ≡ op.AllocRef
allocates_object op.AllocRef e = refl
allocates_object _ e = absurd (cc)

lends_value : (o : Op) → as_member (access_kind_of o) ≡ access.LendsValue → o ≡ op.BeginBorrow
lends_value op.BeginBorrow e = refl
lends_value _ e = absurd (cc)

upcasts : (o : Op) → as_member (access_kind_of o) ≡ access.Upcasts → o ≡ op.Upcast
upcasts op.Upcast e = refl
upcasts _ e = absurd (cc)

names_field : (o : Op) → as_member (access_kind_of o) ≡ access.NamesField → o ≡ op.RefElementAddr
names_field op.RefElementAddr e = refl
names_field _ e = absurd (cc)

module _ (d : Declarations) (i : Inst) where
  pub makes_object : (fields : ℕ) → result_source d i ≡ source.Object fields → i.op ≡ op.AllocRef
  makes_object fields is = allocates_object i.op (source_access d i (source.Object fields) is (λ e. cc))

  pub makes_borrow : (of : ValueId) → result_source d i ≡ source.Borrow of → i.op ≡ op.BeginBorrow
  makes_borrow of is = lends_value i.op (source_access d i (source.Borrow of) is (λ e. cc))

  pub makes_upcast : (of : ValueId) → result_source d i ≡ source.Upcast of → i.op ≡ op.Upcast
  makes_upcast of is = upcasts i.op (source_access d i (source.Upcast of) is (λ e. cc))

  pub makes_field : (of : ValueId) (k : ℕ) (trivial : Bool) → result_source d i ≡ source.Field of k trivial → i.op ≡ op.RefElementAddr
  makes_field of k trivial is = names_field i.op (source_access d i (source.Field of k trivial) is (λ e. cc))

  -- the number of the field is that of the member that the instruction names
  field_place : (o : Option ValueId) (j : Option ℕ) (t : Bool) (of : ValueId) (k : ℕ) (trivial : Bool) → field_source o j t ≡ source.Field of k trivial → j ≡ Some k
  field_place None j t of k trivial e = cc
  field_place (Some v) None t of k trivial e = cc
  field_place (Some v) (Some j) t of k trivial e = let same : j ≡ k = cc in ap (λ x. Some x) same

  pub field_number : (of : ValueId) (k : ℕ) (trivial : Bool) → result_source d i ≡ source.Field of k trivial → member_place d i.member ≡ Some k
  field_number of k trivial is =
      field_place (first_value i) (member_place d i.member) (is_trivial_member d i.member) of k trivial
      (sym (ap (λ o. source_by (access_kind_of o) d i) (makes_field of k trivial is)) ∙ is)

-- ---- values that aren't arguments

-- it is what an instruction makes
abbrev pub is_made : Source → Bool
is_made (source.Slot trivial) = true
is_made (source.Argument row trivial) = false
is_made (source.Object fields) = true
is_made (source.Borrow of) = true
is_made (source.Upcast of) = true
is_made (source.Loan of) = true
is_made (source.Field of k trivial) = true
is_made (source.Part of k) = true
is_made source.Other = false

handed_unmade : (trivial : Bool) (row : Option AddressRow) → is_made (handed_source trivial row) ≡ false
handed_unmade trivial None = refl
handed_unmade trivial (Some row) = refl

told_unmade : (d : Declarations) (o : Option Told) → is_made (argument_source_or d o) ≡ false
told_unmade d None = refl
told_unmade d (Some t) = handed_unmade _ (address_row t.convention)

argument_unmade : (d : Declarations) (f : Function) (b k : ℕ) → is_made (source_of_argument d f b k) ≡ false
argument_unmade d f zero k = told_unmade d (slice_get (arguments_of f.signature) k)
argument_unmade d f (suc b) k = refl

module _ (m : Module) (n : ℕ) (f : Function) (a : IsAcceptedBody m n f) where
  abbrev d : Declarations
  d = declarations_of m

  args_level : (k : ℕ) (xs : List BlockArg) → length (arg_sources d f.signature k xs) ≡ length xs
  args_level zero xs = length-map-range_with_len (λ k. argument_source_or d (slice_get (arguments_of f.signature) k)) 0 (length xs)
  args_level (suc k) xs = length-replicate (length xs) source.Other

  level : length (sources_of d f) ≡ length (values_of f.blocks)
  level = rows_count (arg_sources d f.signature) (result_sources d) args_level (λ i. length-replicate (length i.results) (result_source d i)) 0 f.blocks

  -- what is something to memory is a value
  pub is_value : (v : ValueId) → (source_at (sources_of d f) v ≡ source.Other → ⊥) → IsValue f v
  is_value v some =
      let lt = has_row (sources_of d f) v some in
      let same : length (sources_of d f) ≡ length (values_of f.blocks) = level in
      omega arith

  -- the k-th result of an instruction
  pub record IsResultOf (v : ValueId) (x : Inst) : Type 0 where
    pub block : ℕ
    pub index : ℕ
    pub place : ℕ
    pub here : IsAt f block index x
    pub at : slice_get x.results place ≡ Some v
    pub row : IsResult d f x place v
    pub forms : OwnedInst m f (point_at block index) x

  result_of : (v : ValueId) (block index k : ℕ) (x : Inst) → IsAt f block index x → slice_get x.results k ≡ Some v → IsResultOf v x
  result_of v block index k x here at = record {
    block = block;
    index = index;
    place = k;
    here = here;
    at = at;
    row = result_rows m n f a block index k x v here at;
    forms = owned_inst m (well_typed m a.verified) n f a.body.there (point_at block index) x
        (at_point_of_result m n f a v block index x here (k, slice_get_within x.results k v at, get_or_from_slice_get x.results k v v at)) (in_ownership_form m n f a);
  }

  by_definition : (v : ValueId) → IsDefined f v → is_made (source_at (sources_of d f) v) ≡ true → (x : Inst) × IsResultOf v x
  by_definition _ (a_result block index k x v here at) made = (x, result_of v block index k x here at)
  by_definition _ (an_argument b k x at) made =
      absurd (false≢true (sym (ap is_made (argument_rows m n f a b k x at).source ∙ argument_unmade d f b k) ∙ made))

  made_some : (s : Source) → is_made s ≡ true → s ≡ source.Other → ⊥
  made_some s made e = false≢true (sym (ap is_made e) ∙ made)

  pub made_there : (v : ValueId) → is_made (source_at (sources_of d f) v) ≡ true → (x : Inst) × IsResultOf v x
  made_there v made = by_definition v (defined_so m n f v a (is_value v (made_some (source_at (sources_of d f) v) made))) made
