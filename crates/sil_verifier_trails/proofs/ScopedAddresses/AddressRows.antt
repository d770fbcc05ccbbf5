-- Addresses by their rows: a Plain value with bases is what a row of addresses gives and names a place. What borrows is a scope to memory too.
use Rattle.std.proofs.Common.{◌≡◌, ℕ, zero, suc, List, [], ◌∷◌, ◌++◌, length, map, refl, sym, ap, ◌∙◌, subst, Bool, true, false, inl, inr, Option, Some, None}
use Rattle.std.specs.Prelude.{Contains, option_map, slice_get}
use Rattle.std.proofs.lemmas.Bool.{false≢true, true≢false}
use Rattle.std.proofs.lemmas.List.Elements.{Contains-append_left}
use Rattle.std.proofs.lemmas.Option.{slice_get-map}
use Rattle.argument_conventions.specs.declared.row.AddressRow.{AddressRow}
use Rattle.instruction_table.specs.Forms.{result_kind_of}
use Rattle.instruction_table.specs.declared.entries.ResultKind.{ResultKind}
use Rattle.instruction_table.specs.declared.entries.ResultKind.TheVariants.{AddressResult, ForwardedResult, NoneResult, OperandResult, OwnedResult, ScopeResult}
use Rattle.instruction_table.specs.declared.op.Op.{Op}
use Rattle.instruction_table.specs.declared.op.Op.TheVariants as op
use Rattle.sil_cfg_items.specs.Items.{item_defined}
use Rattle.sil_cfg_items.specs.Parts.{inst_at, results_in}
use Rattle.numbered_form.specs.inner.Parts.{has_operands, is_typed}
use Rattle.sil_verifier_values.specs.ownership_kinds_chains.OwnershipChains.Chains.{operands_at}
use Rattle.sil_verifier_values.specs.ownership_kinds_chains.OwnershipChains.Facts.{has, origin_at, told_by}
use Rattle.sil_verifier_values.specs.ownership_kinds_chains.declared.ownership_chains.definition.Definition.{Definition}
use Rattle.sil_verifier_values.specs.ownership_kinds_chains.declared.ownership_chains.definition.Origin.TheVariants as origin
use Rattle.sil_verifier_values.specs.ownership_kinds_chains.declared.ownership_chains.facts.Facts.{Facts}
use Rattle.numbered_form.specs.PointChecks.Points.{IsAt}
use Rattle.numbered_form.proofs.PointChecks.Among.{among_contained}
use Rattle.sil_ast.specs.declared.function.ArgKind.{ArgKind}
use Rattle.sil_ast.specs.declared.function.ArgKind.TheVariants as annotation
use Rattle.sil_ast.specs.declared.function.Function.{Function}
use Rattle.sil_ast.specs.declared.inst.Inst.{Inst}
use Rattle.sil_ast.specs.declared.module.Module.{Module}
use Rattle.sil_ast.specs.declared.place.PointId.{PointId}
use Rattle.sil_ast.specs.declared.place.ValueId.{ValueId}
use Rattle.sil_ast.specs.declared.type_name.TypeName.{TypeName}
use Rattle.sil_cfg.specs.Items.{point_at}
use Rattle.sil_cfg.specs.declared.item.Item.TheVariants as item
use Rattle.sil_verifier_values.specs.sil_types_declarations.TypeDefinitions.Declarations.{Declarations, declarations_of}
use Rattle.sil_verifier_values.specs.sil_types_declarations.declared.type_definitions.kind.Kind.TheVariants as kind
use Rattle.numbered_form.specs.ValueTables.Borrows.{borrow_by, borrows, is_borrow}
use Rattle.numbered_form.specs.ValueTables.FirstValue as values
use Rattle.numbered_form.specs.declared.value_tables.borrows.Borrow.TheVariants.{NoBorrow}
use Rattle.sil_verifier_trails.specs.AcceptedTrails.inner.Bases.{IsBaseOf}
use Rattle.sil_verifier_values.specs.memory_rules_accesses.Operations.{access_kind_of}
use Rattle.sil_verifier_values.specs.memory_rules_accesses.Sources.{borrow_source, element_place, field_source, is_slot, is_trivial_member, loan_source, member_place, part_source}
use Rattle.sil_verifier_values.specs.memory_rules_accesses.Sources.{result_source, slot_source, source_at, source_by, sources_of}
use Rattle.sil_verifier_values.specs.memory_rules_accesses.declared.source.Source.{Source}
use Rattle.sil_verifier_values.specs.memory_rules_accesses.declared.source.Source.TheVariants as source
use Rattle.sil_verifier_values.specs.memory_rules_parts.Parts.{is_scope, is_scope_source}
use Rattle.sil_verifier_values.specs.ownership_kinds_origins.Origins.{arg_definition_by, chain_operands, definitions_of, is_zero, result_origin}
use Rattle.sil_verifier_values.specs.ownership_kinds_origins.Switched.{switch_to}
use Rattle.sil_verifier_values.specs.ownership_kinds_origins.declared.switched.Switched.{Switched}
use Rattle.sil_verifier_trails.specs.AcceptedPlaces.inner.Located.{IsAddress, IsNamed, member, root}
use Rattle.sil_verifier_trails.proofs.AcceptedPlaces.ItemStacks.{none_made, opens_no_slot, opens_none}
use Rattle.sil_verifier_trails.proofs.AcceptedPlaces.Naming.{MakesAddress, address_made, makes_member, makes_root}
use Rattle.sil_verifier_trails.proofs.AcceptedPlaces.PartsThere.{each_where_among}
use Rattle.sil_verifier_values.specs.inner.Known.{IsAcceptedBody, facts_at, kind_at, told_in_function}
use Rattle.sil_verifier_values.specs.holder_model.RunTyping.Forms.{Form, OfPlace, form_of, forms_of}
use Rattle.sil_verifier_values.specs.holder_model.RunTyping.RowForms as rows
use Rattle.sil_verifier_values.specs.holder_model.RunTyping.RowForms.{RowForms}
use Rattle.sil_verifier_values.proofs.Accepted.{in_ownership_form, typed, well_typed}
use Rattle.sil_verifier_values.proofs.Based.{based}
use Rattle.sil_verifier_values.proofs.Borrowed.{borrow_is_value}
use Rattle.sil_verifier_values.proofs.Counted.{nothing_in}
use Rattle.sil_verifier_values.proofs.Defined.{IsDefined, a_result, an_argument, defined_so}
use Rattle.sil_verifier_values.proofs.Facts.{facts_so}
use Rattle.sil_verifier_values.proofs.Made.{at_point_of_result}
use Rattle.sil_verifier_values.proofs.TableRows.{argument_rows, result_rows}
use Rattle.sil_verifier_values.proofs.Told.{BaseFrom, addressed, base_from, itself, lent}
use Rattle.numbered_form.proofs.Lists.{contained}
use Rattle.sil_verifier_values.proofs.holder_model_typing.RunTypingLaws.EndFacts.{no_operand, one_operand}
use Rattle.sil_verifier_values.specs.holder_model_typing.OwnedRunTyping.inner.OwnedRows as owned
use Rattle.sil_verifier_values.specs.holder_model_typing.OwnedRunTyping.inner.OwnedRows.{OwnedRowForms}
use Rattle.sil_verifier_values.proofs.holder_model_typing.OwnedRunTyping.OwnedInsts.{owned_inst}
use Rattle.sil_verifier_values.specs.holder_model_values.RunValues.Shapes.{Shape}
use Rattle.sil_verifier_values.specs.holder_model.Effects.{effect_of}
use Rattle.sil_verifier_values.specs.holder_model.declared.row_effect.RowEffect.{RowEffect}
use Rattle.sil_verifier_values.specs.holder_model.declared.row_effect.RowEffect.TheVariants as row
use Rattle.sil_verifier_trails.specs.ScopedAddresses.inner.Addresses.{AreBorrowsScopes, ArePlainInScopesNamed, HaveSlotsNoBases}

-- ---- what borrows is a scope to memory

borrowing : (k : ResultKind) (i : Inst) → borrows (borrow_by k i) ≡ true → k ≡ ScopeResult
borrowing ScopeResult i e = refl
borrowing NoneResult i e = cc
borrowing OwnedResult i e = cc
borrowing AddressResult i e = cc
borrowing ForwardedResult i e = cc
borrowing OperandResult i e = cc

scope_source : (d : Declarations) (i : Inst) (o : Op) → result_kind_of o ≡ ScopeResult → has_operands o i.operands ≡ true
    → is_scope_source (source_by (access_kind_of o) d i) ≡ true
scope_source d i op.BeginBorrow e h =
    ap (λ os. is_scope_source (borrow_source (option_map values.value_of (slice_get os 0)))) (one_operand is_typed i.operands h).1
scope_source d i op.LoadBorrow e h = ap (λ os. is_scope_source (loan_source (option_map values.value_of (slice_get os 0)))) (one_operand is_typed i.operands h).1
scope_source d i _ e h = absurd (cc)

-- ---- the rows that give addresses

only_addresses : (k : ResultKind) (trivial : Bool) → result_origin k trivial ≡ origin.Address → k ≡ AddressResult
only_addresses AddressResult trivial e = refl
only_addresses NoneResult trivial e = cc
only_addresses OwnedResult true e = cc
only_addresses OwnedResult false e = cc
only_addresses ScopeResult true e = cc
only_addresses ScopeResult false e = cc
only_addresses ForwardedResult true e = cc
only_addresses ForwardedResult false e = cc
only_addresses OperandResult true e = cc
only_addresses OperandResult false e = cc

no_address_argument : (entry : Bool) (s : Option Switched) (k : ArgKind) (trivial : Bool) → (arg_definition_by entry s k trivial).origin ≡ origin.Address → ⊥
no_address_argument entry s annotation.Plain trivial e = cc
no_address_argument entry s annotation.Owned true e = cc
no_address_argument entry s annotation.Owned false e = cc
no_address_argument true s annotation.Guaranteed true e = cc
no_address_argument true s annotation.Guaranteed false e = cc
no_address_argument false s annotation.Guaranteed true e = cc
no_address_argument false s annotation.Guaranteed false e = cc

-- none of them is an argument
abbrev is_argument : Source → Bool
is_argument (source.Argument row trivial) = true
is_argument _ = false

slot_none : (d : Declarations) (o : Option TypeName) → is_argument (slot_source d o) ≡ false
slot_none d None = refl
slot_none d (Some t) = refl

field_none : (o : Option ValueId) (k : Option ℕ) (trivial : Bool) → is_argument (field_source o k trivial) ≡ false
field_none None k trivial = refl
field_none (Some v) None trivial = refl
field_none (Some v) (Some k) trivial = refl

part_none : (o : Option ValueId) (k : Option ℕ) → is_argument (part_source o k) ≡ false
part_none None k = refl
part_none (Some v) None = refl
part_none (Some v) (Some k) = refl

address_source : (d : Declarations) (i : Inst) (o : Op) → result_kind_of o ≡ AddressResult → is_argument (source_by (access_kind_of o) d i) ≡ false
address_source d i op.AllocStack e = slot_none d i.ty
address_source d i op.RefElementAddr e = field_none (values.first_value i) (member_place d i.member) (is_trivial_member d i.member)
address_source d i op.StructElementAddr e = part_none (values.first_value i) (member_place d i.member)
address_source d i op.TupleElementAddr e = part_none (values.first_value i) (element_place i.number)
address_source d i _ e = absurd (cc)

-- only what allocates makes a slot, and it takes nothing
allocating : (o : Op) → opens_no_slot (access_kind_of o) ≡ false → o ≡ op.AllocStack
allocating op.AllocStack e = refl
allocating _ e = absurd (true≢false e)

-- they name places
abbrev names_place : RowEffect → Bool
names_place row.MakesSlot = true
names_place row.AddressesMember = true
names_place row.AddressesField = true
names_place _ = false

naming_row : (o : Op) → result_kind_of o ≡ AddressResult → names_place (effect_of o) ≡ true
naming_row op.AllocStack e = refl
naming_row op.RefElementAddr e = refl
naming_row op.StructElementAddr e = refl
naming_row op.TupleElementAddr e = refl
naming_row _ e = absurd (cc)

module _ (m : Module) (i : Inst) (naming : names_place (effect_of i.op) ≡ true) where
  abbrev GivesPlace : Form → Type 0
  GivesPlace form = (s : Shape) × (form ≡ OfPlace s)

  other_row : (r : RowEffect) → effect_of i.op ≡ r → names_place r ≡ false → ⊥
  other_row r is none = false≢true (sym none ∙ ap names_place (sym is) ∙ naming)

  one_place : (s : Shape) (k : ℕ) (form : Form) → slice_get (OfPlace s ∷ []) k ≡ Some form → GivesPlace form
  one_place s zero form e = (s, cc)
  one_place s (suc k) form e = cc

  place_by_lowered : {ins outs : List Form} → RowForms m i ins outs → (k : ℕ) (form : Form) → slice_get outs k ≡ Some form → GivesPlace form
  place_by_lowered (rows.looks form is) k x e = absurd (other_row _ is refl)
  place_by_lowered (rows.literal n width is number residue) k x e = absurd (other_row _ is refl)
  place_by_lowered (rows.function g is function) k x e = absurd (other_row _ is refl)
  place_by_lowered (rows.computes b is named) k x e = absurd (other_row _ is refl)
  place_by_lowered (rows.traps text is told) k x e = absurd (other_row _ is refl)
  place_by_lowered (rows.object class is declared) k x e = absurd (other_row _ is refl)
  place_by_lowered (rows.slot how s is shape) k x e = one_place _ k x e
  place_by_lowered (rows.removes s is) k x e = absurd (other_row _ is refl)
  place_by_lowered (rows.upcast class above is below) k x e = absurd (other_row _ is refl)
  place_by_lowered (rows.retains s is bare) k x e = absurd (other_row _ is refl)
  place_by_lowered (rows.drops s is bare) k x e = absurd (other_row _ is refl)
  place_by_lowered (rows.loads s is done bare) k x e = absurd (other_row _ is refl)
  place_by_lowered (rows.stores s is done bare) k x e = absurd (other_row _ is refl)
  place_by_lowered (rows.loads_name how s o is named done _) k x e = absurd (other_row _ is refl)
  place_by_lowered (rows.stores_name how s o is named done write) k x e = absurd (other_row _ is refl)
  place_by_lowered (rows.destroys_name how s is named done) k x e = absurd (other_row _ is refl)
  place_by_lowered (rows.groups s ss is group) k x e = absurd (other_row _ is refl)
  place_by_lowered (rows.chooses_plain s n c is of_enum at there no_payload) k x e = absurd (other_row _ is refl)
  place_by_lowered (rows.chooses_full s payload n c is of_enum at there full) k x e = absurd (other_row _ is refl)
  place_by_lowered (rows.member s part n is number there) k x e = absurd (other_row _ is refl)
  place_by_lowered (rows.member_address s part n is number there) k x e = one_place _ k x e
  place_by_lowered (rows.field_address class named s n is of_class owner number there) k x e = one_place _ k x e
  place_by_lowered (rows.calls g callee is there bodied) k x e = absurd (other_row _ is refl)
  place_by_lowered (rows.calls_out g callee widths is there bodiless) k x e = absurd (other_row _ is refl)

  place_by_row : {ins outs : List Form} → OwnedRowForms m i ins outs → (k : ℕ) (form : Form) → slice_get outs k ≡ Some form → GivesPlace form
  place_by_row (owned.also_lowered ins outs forms) k x e = place_by_lowered forms k x e
  place_by_row (owned.gives s is bare) k x e = absurd (other_row _ is refl)
  place_by_row (owned.copies s is bare) k x e = absurd (other_row _ is refl)
  place_by_row (owned.loads s o is done _ bare) k x e = absurd (other_row _ is refl)
  place_by_row (owned.stores s o is done write bare) k x e = absurd (other_row _ is refl)
  place_by_row (owned.destroys s is done bare) k x e = absurd (other_row _ is refl)
  place_by_row (owned.members s ss is group) k x e = absurd (other_row _ is refl)

module _ (m : Module) (n : ℕ) (f : Function) (a : IsAcceptedBody m n f) where
  abbrev d : Declarations
  d = declarations_of m

  abbrev sources : List Source
  sources = sources_of d f

  abbrev defs : List Definition
  defs = definitions_of d f

  borrow_by_row : (b : ValueId) → IsDefined f b → is_borrow f b ≡ true → is_scope sources b ≡ true
  borrow_by_row _ (a_result block index k i v here at) e =
      let row = result_rows m n f a block index k i v here at in
      let scope = borrowing (result_kind_of i.op) i (ap borrows (sym row.borrow) ∙ e) in
      ap is_scope_source row.source ∙ scope_source d i i.op scope ((typed m n f a).insts block index i here).parts.operands
  borrow_by_row _ (an_argument b k x at) e =
      let row = argument_rows m n f a b k x at in
      let none : borrows NoBorrow ≡ true = ap borrows (sym row.borrow) ∙ e in
      cc

  borrow_scope : (b : ValueId) → is_borrow f b ≡ true → is_scope sources b ≡ true
  borrow_scope b e = borrow_by_row b (defined_so m n f b a (borrow_is_value m n f a b e)) e

  -- ---- a Plain value with bases

  -- it is the result of a row that gives addresses
  record IsAddressResult (v : ValueId) : Type 0 where
    block : ℕ
    index : ℕ
    k : ℕ
    i : Inst
    here : IsAt f block index i
    at : slice_get i.results k ≡ Some v
    address : result_kind_of i.op ≡ AddressResult
    operand : ValueId
    rests : Contains (operands_at defs v) operand

  from_address : (v b : ValueId) → kind_at d f v ≡ kind.Plain → IsBaseOf d f b v → (origin_at defs v ≡ origin.Address) × (w : ValueId) × Contains (operands_at defs v) w
  from_address v b plain base =
      by (base_from (length defs) v (facts_at d f) (operands_at defs v) (origin_at defs v) b.0 (ap (λ (x : Facts). has x.bases b.0) so ∙ base))
    where
      so : told_in_function d f v ≡ facts_at d f v
      so = sym (facts_so m n f a v (based m n f a v b base))

      told_plain : (told_in_function d f v).kind ≡ kind.Plain
      told_plain = ap (λ (x : Facts). x.kind) so ∙ plain

      no_lender : origin_at defs v ≡ origin.Lender → ⊥
      no_lender o =
          let guaranteed : (told_in_function d f v).kind ≡ kind.Guaranteed = ap (λ o. (told_by (length defs) v (facts_at d f) (operands_at defs v) o).kind) o in
          let two : kind.Guaranteed ≡ kind.Plain = sym guaranteed ∙ told_plain in cc

      by : BaseFrom (length defs) v (facts_at d f) (operands_at defs v) (origin_at defs v) (told_in_function d f v).kind b.0
          → (origin_at defs v ≡ origin.Address) × (w : ValueId) × Contains (operands_at defs v) w
      by (itself same (inl o)) = absurd (no_lender o)
      by (itself same (inr is)) = let two : kind.Owned ≡ kind.Plain = sym is ∙ told_plain in cc
      by (lent lt is w c k h) = let two : kind.Guaranteed ≡ kind.Plain = sym is ∙ told_plain in cc
      by (addressed lt o w c h) = (o, w, c)

  address_by_row : (v w : ValueId) → IsDefined f v → origin_at defs v ≡ origin.Address → Contains (operands_at defs v) w → IsAddressResult v
  address_by_row _ w (a_result block index k i v here at) o c =
      let row = result_rows m n f a block index k i v here at in
      record {
        block = block;
        index = index;
        k = k;
        i = i;
        here = here;
        at = at;
        operand = w;
        rests = c;
        address = only_addresses (result_kind_of i.op) _ (sym row.defined.origin ∙ o);
      }
  address_by_row _ w (an_argument b k x at) o c =
      let row = argument_rows m n f a b k x at in absurd (no_address_argument (is_zero b) (switch_to f b) x.kind _ (sym row.defined.origin ∙ o))

  address_result : (v b : ValueId) → kind_at d f v ≡ kind.Plain → IsBaseOf d f b v → IsAddressResult v
  address_result v b plain base =
      let from = from_address v b plain base in
      address_by_row v from.1 (defined_so m n f v a (based m n f a v b base)) from.0 from.2

  module _ (v : ValueId) (r : IsAddressResult v) where
    abbrev p : PointId
    p = point_at r.block r.index

    source_is : source_at sources v ≡ result_source d r.i
    source_is = (result_rows m n f a r.block r.index r.k r.i v r.here r.at).source

    among_results : Contains r.i.results v
    among_results = contained r.i.results r.k v r.at

    there : inst_at f p ≡ Some r.i
    there = at_point_of_result m n f a v r.block r.index r.i r.here among_results

    defined_by : Contains (item_defined f (item.Inst p)) v
    defined_by = subst (λ o. Contains (results_in o ++ []) v) (sym there) (Contains-append_left r.i.results [] v among_results)

    no_argument : (row : AddressRow) (trivial : Bool) → source_at sources v ≡ source.Argument row trivial → ⊥
    no_argument row trivial e =
        false≢true (sym (ap is_argument source_is ∙ address_source d r.i r.i.op r.address) ∙ ap is_argument e)

    is_address : IsAddress d f v
    is_address =
        let row = (owned_inst m (well_typed m a.verified) n f a.body.there p r.i there (in_ownership_form m n f a)).row in
        let form : slice_get (forms_of d f r.i.results) r.k ≡ Some (form_of d f v) = slice_get-map (form_of d f) r.i.results r.k ∙ ap (option_map (form_of d f)) r.at in
        let place = place_by_row m r.i (naming_row r.i.op r.address) row r.k (form_of d f v) form in
        record { shape = place.0; is = place.1 }

    is_named : IsNamed sources v
    is_named = by (address_made m n f a (item.Inst p) v defined_by is_address)
      where
        by : MakesAddress d f (item.Inst p) v → IsNamed sources v
        by (makes_root at) = root at
        by (makes_member of k part among address) = member of k part

    -- what allocates takes nothing, so that a slot has no operand
    no_slot : is_slot sources v ≡ true → ⊥
    no_slot slot = by_kind (opens_no_slot (access_kind_of r.i.op)) refl
      where
        by_kind : (b : Bool) → opens_no_slot (access_kind_of r.i.op) ≡ b → ⊥
        by_kind true opens =
            let none = each_where_among (λ w. is_slot sources w ≡ false) (item_defined f (item.Inst p)) v
            (none_made m n f a (item.Inst p) (ap opens_none there ∙ opens)) (among_contained v (item_defined f (item.Inst p)) defined_by) in
            true≢false (sym slot ∙ none)
        by_kind false opens =
            let is = allocating r.i.op opens in
            let none : r.i.operands ≡ [] =
            no_operand r.i.operands (ap (λ o. has_operands o r.i.operands) (sym is) ∙ ((typed m n f a).insts r.block r.index r.i r.here).parts.operands) in
            let row = result_rows m n f a r.block r.index r.k r.i v r.here r.at in
            let operands : operands_at defs v ≡ [] =
            row.defined.operands ∙ ap (λ k. chain_operands k (map values.value_of r.i.operands)) r.address ∙ ap (map values.value_of) none in
            nothing_in r.operand (subst (λ vs. Contains vs r.operand) operands r.rests)

  plain_named : (v b : ValueId) → kind_at d f v ≡ kind.Plain → IsBaseOf d f b v
      → IsNamed sources v × ((row : AddressRow) (trivial : Bool) → source_at sources v ≡ source.Argument row trivial → ⊥)
  plain_named v b plain base = let r = address_result v b plain base in (is_named v r, no_argument v r)

  slot_free : (v b : ValueId) → is_slot sources v ≡ true → kind_at d f v ≡ kind.Plain → IsBaseOf d f b v → ⊥
  slot_free v b slot plain base = no_slot v (address_result v b plain base) slot

pub borrows_scopes : AreBorrowsScopes
borrows_scopes m n f a b borrow = borrow_scope m n f a b borrow

pub plain_in_scopes_named : ArePlainInScopesNamed
plain_in_scopes_named m n f a v b plain base = plain_named m n f a v b plain base

pub slots_no_bases : HaveSlotsNoBases
slots_no_bases m n f a v b slot plain base = slot_free m n f a v b slot plain base
