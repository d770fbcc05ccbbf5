-- A function is entered, by a call or to deinitialise an object: what it is handed names whole objects alone, and places on the stack.
use Rattle.std.proofs.Common.{◌≡◌, inl, inr, ℕ, zero, suc, List, [], ◌∷◌, drop, map, refl, sym, ap, ◌∙◌, subst, Bool, true, false, Option, Some, None, Ok}
use Rattle.std.specs.Prelude.{Contains, cond, option_map, slice_get, unwrap_or}
use Rattle.std.specs.Option.{option_or}
use Rattle.std.proofs.lemmas.Option.{none-some, same_Some}
use Rattle.argument_conventions.specs.declared.row.AddressRow.{AddressRow}
use Rattle.sil_verifier_frames.specs.holder_model.Calling.{as_argument, lent_places, lent_with, value_count}
use Rattle.sil_verifier_frames.specs.holder_model.Data.{AddressOf, Datum, FunctionOf, ValueOf, as_place, home_references, references_in}
use Rattle.sil_verifier_frames.specs.holder_model.Effects.{effect_of}
use Rattle.sil_verifier_frames.specs.holder_model.Frames.{Entry, Frame, Gone, Operands, any_dead, datum_in, entry_at, no_entries, results_put}
use Rattle.sil_verifier_frames.specs.holder_model.States.{Task}
use Rattle.sil_verifier_frames.specs.holder_model.declared.row_effect.RowEffect.TheVariants as row
use Rattle.sil_verifier_frames.specs.memory_rules_accesses.Operations.{access_kind_of, is_address_role, operated, operated_at, operation_at, operation_by, operations_of}
use Rattle.sil_verifier_frames.specs.memory_rules_accesses.Sources.{sources_of}
use Rattle.sil_verifier_frames.specs.memory_rules_accesses.declared.access.Operation.TheVariants as operation
use Rattle.sil_verifier_frames.specs.sil_verifier_values.inner.Known.{IsAcceptedBody}
use Rattle.sil_verifier_frames.specs.holder_model_laws.HolderLaws.inner.Built.FrameObjects.{Names}
use Rattle.sil_verifier_frames.specs.holder_model_laws.HolderLaws.inner.Built.Laws.{IsOutside}
use Rattle.sil_verifier_frames.specs.holder_model_laws.HolderLaws.inner.Held.Items.{AreEntered, IsOnStack}
use Rattle.sil_cfg_items.specs.Items.{item_defined, item_taken}
use Rattle.sil_cfg_items.specs.Parts.{inst_at}
use Rattle.sil_cfg_items.specs.Roles.{taken_by}
use Rattle.sil_cfg_items.specs.declared.taken.Taken.{Taken}
use Rattle.sil_verifier_frames.specs.holder_model_laws.HolderLaws.inner.Cells.Cells.{IsInside}
use Rattle.numbered_form.specs.Lists.{Each}
use Rattle.sil_verifier_frames.specs.ownership_kinds_chains.OwnershipChains.Facts.{has}
use Rattle.sil_verifier_frames.specs.ownership_kinds_chains.declared.ownership_chains.facts.Facts.{Facts}
use Rattle.numbered_form.proofs.PointChecks.Among.{Among, among_flat, among_option, contained_among}
use Rattle.holder_model_values.specs.RunValues.Memory.{Memory}
use Rattle.holder_model_values.specs.RunValues.Places.{OnStack, Place}
use Rattle.sil_ast.specs.declared.function.Function.{Function}
use Rattle.sil_ast.specs.declared.inst.Inst.{Inst}
use Rattle.sil_ast.specs.declared.module.Module.{Module}
use Rattle.sil_ast.specs.declared.place.FuncId.{FuncId}
use Rattle.sil_ast.specs.declared.place.PointId.{PointId}
use Rattle.sil_ast.specs.declared.place.ValueId.{ValueId}
use Rattle.sil_cfg.specs.declared.item.Item.TheVariants as item
use Rattle.sil_types_declarations.specs.TypeDefinitions.Declarations.{declarations_of}
use Rattle.sil_verifier_frames.specs.holder_model_laws.HolderLaws.inner.Whole.Whole.{NameWhole}
use Rattle.sil_verifier_frames.proofs.holder_model_laws.HolderLaws.Whole.Lists.{each_append, each_at}
use Rattle.sil_verifier_runs.specs.inner.Built.Said.{said}
use Rattle.sil_verifier_runs.proofs.Built.Apart.{entry_apart, made_apart}
use Rattle.sil_verifier_runs.proofs.Built.ArgumentsHanded.{handed_addresses}
use Rattle.sil_verifier_runs.proofs.Built.EntriesNamed.{AreNamed, put_named, put_other}
use Rattle.sil_verifier_runs.proofs.Built.GivenValues.{takes_whole, whole_row}
use Rattle.sil_verifier_runs.proofs.Built.OperandPlaces.{OthersOnStack, handed_on_stack, inside}
use Rattle.sil_verifier_runs.proofs.Built.PlaceRows.{inst_taken}
use Rattle.sil_verifier_runs.proofs.Built.Reading.{named_place}
use Rattle.sil_verifier_runs.proofs.Built.Steps.{none_at_entry}
use Rattle.sil_verifier_runs.proofs.Built.WholeOperands.{Ready, whole_value}

-- ---- entries of a function that is entered

-- before its entry no entry is there
gone_entries : (n k : ℕ) → unwrap_or (slice_get (no_entries n) k) Gone ≡ Gone
gone_entries zero k = refl
gone_entries (suc n) zero = refl
gone_entries (suc n) (suc k) = gone_entries n k

-- arguments that name whole objects are entries that do
pub entered : (m : Module) (g : FuncId) (callee : Function) → IsAcceptedBody m g.0 callee → (memory : Memory) (facts : ValueId → Option Facts) (args : List Datum) (entries : List Entry)
    → Each (λ x. NameWhole memory (references_in x)) args
    → results_put facts (item_defined callee item.Entry) args (no_entries (value_count callee)) ≡ Ok entries → AreEntered m (said m) memory callee entries
entered m g callee a memory facts args entries whole put = record { none = none_at_entry m g.0 callee a; named = named }
  where
    none_there : (v : ValueId) (x : Datum) → datum_in (entry_at (no_entries (value_count callee)) v) ≡ Some x → ⊥
    none_there v x names = none-some x (sym (ap datum_in (gone_entries (value_count callee) v.0)) ∙ names)

    named : (v : ValueId) (x : Datum) → Names entries v x → NameWhole memory (references_in x) × IsOutside (sources_of (declarations_of m) callee) v
    named v x names = at (has (item_defined callee item.Entry) v.0) refl
      where
        at : (b : Bool) → has (item_defined callee item.Entry) v.0 ≡ b → NameWhole memory (references_in x) × IsOutside (sources_of (declarations_of m) callee) v
        at false none =
            absurd (none_there v x (ap datum_in (sym (put_other facts (item_defined callee item.Entry) args (no_entries (value_count callee)) entries put v none)) ∙ names))
        at true some =
            let begun = put_named facts (item_defined callee item.Entry) args (no_entries (value_count callee)) entries put v some x names in (
              each_at (λ y. NameWhole memory (references_in y)) args begun.place x whole begun.datum,
              made_apart m g.0 callee a item.Entry v some (entry_apart m g.0 callee a),
            )

-- ---- what a call hands over

-- an argument names what the operand names
argument_names : (x : Datum) → references_in (as_argument x) ≡ references_in x
argument_names (ValueOf v) = refl
argument_names (AddressOf p) = refl
argument_names (FunctionOf g) = refl

module _ (m : Module) (memory : Memory) (rest : List (Task Frame)) (frame : Frame) (f : Function) (p : PointId) (ops : Operands)
    (ready : Ready m memory rest frame f (item.Inst p) ops) (x : Inst) (is : inst_at f p ≡ Some x) (others : OthersOnStack m frame f p)
    (call : effect_of x.op ≡ row.CallsFunction) where
  -- what is handed over by an address is there, on the stack
  abbrev pub IsLentSo : Taken → Datum → Type 0
  IsLentSo t y = (row : AddressRow) → t.handed ≡ Some row → (q : Place) → y ≡ AddressOf q → (q.home ≡ OnStack) × IsInside memory q

  abbrev pub IsGivenSo : Taken → Datum → Type 0
  IsGivenSo t y = NameWhole memory (references_in y) × IsLentSo t y

  handed_operation : (t : Taken) → Among t (taken_by x) → (row : AddressRow) → t.handed ≡ Some row → Contains (operations_of x) (operated t.value (operation.Handed row))
  handed_operation t among row handed =
      contained_among (operated t.value (operation.Handed row)) (operations_of x)
      (among_flat (operated_at (access_kind_of x.op) x.qualifier) (operated t.value (operation.Handed row)) t (taken_by x) among
      (among_option (option_map (operated t.value) (operation_at (access_kind_of x.op) x.qualifier t)) (operated t.value (operation.Handed row))
      (ap (λ h. option_map (operated t.value) (option_or (option_map operation.Handed h) (cond (is_address_role t.role) (operation_by (access_kind_of x.op) x.qualifier) None))) handed)))

  module _ (first : Taken) (behind : List Taken) (taken : taken_by x ≡ first ∷ behind) where
    in_taken : (t : Taken) → Among t behind → Among t (taken_by x)
    in_taken t among = subst (Among t) (sym taken) (inr among)

    in_item : (t : Taken) → Among t behind → Contains (item_taken f (item.Inst p)) t
    in_item t among = subst (λ ts. Contains ts t) (sym (inst_taken f p x is)) (contained_among t (taken_by x) (in_taken t among))

    one_given : (t : Taken) → Among t behind → (y : Datum) → Names frame.entries t.value y → any_dead memory (references_in y) ≡ false → IsGivenSo t y
    one_given t among (ValueOf v) names living = (
      whole_value m memory rest frame f (item.Inst p) ops ready x is (whole_row x.op (ap takes_whole call)) t (in_item t among) v names,
      λ row handed q same. cc,
    )
    one_given t among (FunctionOf g) names living = (tt, λ row handed q same. cc)
    one_given t among (AddressOf q) names living =
        let address = named_place m ready.w f frame.entries ready.entries t.value q names in
        let row = handed_addresses m frame.function.0 f ready.doing.body p x is call first behind taken t among (record { shape = q.shape; is = address.1 }) in
        let home : q.home ≡ OnStack = handed_on_stack m memory rest frame f p ops ready x is others t (in_item t among) q names row.0
        (handed_operation t (in_taken t among) row.0 row.1) in
        let there = inside m memory rest frame f p ops ready t.value q names living in (
          subst (λ h. NameWhole memory (home_references h)) (sym home) tt,
          λ row handed r same. let one : q ≡ r = cc in (subst (λ (z : Place). z.home ≡ OnStack) one home, subst (IsInside memory) one there),
        )

    -- all of them
    args_whole : (ts : List Taken) (ys : List Datum) → AreNamed memory frame.entries ops.left ts ys → ((t : Taken) → Among t ts → Among t behind)
        → Each (λ y. NameWhole memory (references_in y)) (map as_argument ys)
    args_whole [] [] named within = tt
    args_whole [] (y ∷ ys) named within = absurd named
    args_whole (t ∷ ts) [] named within = tt
    args_whole (t ∷ ts) (y ∷ ys) named within = (
      subst (NameWhole memory) (sym (argument_names y)) (one_given t (within t (inl refl)) y named.0.0 named.0.1).0,
      args_whole ts ys named.1 (λ u among. within u (inr among)),
    )

    one_lent : (t : Taken) (y : Datum) → IsLentSo t y → (h : Option AddressRow) → t.handed ≡ h → (o : Option Place) → as_place y ≡ o
        → Each (IsOnStack m (said m) memory) (lent_with h o)
    one_lent t y lent None handed o at = tt
    one_lent t y lent (Some row) handed None at = tt
    one_lent t y lent (Some row) handed (Some q) at = (lent row handed q (address_is y q at), tt)
      where
        address_is : (y : Datum) (q : Place) → as_place y ≡ Some q → y ≡ AddressOf q
        address_is (AddressOf r) q at = ap AddressOf (same_Some r q at)
        address_is (ValueOf v) q at = absurd (none-some q at)
        address_is (FunctionOf g) q at = absurd (none-some q at)

    all_lent : (ts : List Taken) (ys : List Datum) → AreNamed memory frame.entries ops.left ts ys → ((t : Taken) → Among t ts → Among t behind)
        → Each (IsOnStack m (said m) memory) (lent_places ts ys)
    all_lent [] ys named within = tt
    all_lent (t ∷ ts) [] named within = tt
    all_lent (t ∷ ts) (y ∷ ys) named within =
        each_append (IsOnStack m (said m) memory) (lent_with t.handed (as_place y)) (lent_places ts ys)
        (one_lent t y (one_given t (within t (inl refl)) y named.0.0 named.0.1).1 t.handed refl (as_place y) refl)
        (all_lent ts ys named.1 (λ u among. within u (inr among)))

  -- the arguments name whole objects, and what is lent is on the stack
  pub record HandsSo (args : List Datum) : Type 0 where
    pub whole : Each (λ y. NameWhole memory (references_in y)) (map as_argument args)
    pub lent : Each (IsOnStack m (said m) memory) (lent_places (drop 1 (item_taken f (item.Inst p))) args)

  pub hands_so : (callee : Datum) (args : List Datum) → ops.given ≡ callee ∷ args → HandsSo args
  hands_so callee args given = by (taken_by x) refl (subst (λ ts. AreNamed memory frame.entries ops.left ts (callee ∷ args)) (inst_taken f p x is)
      (subst (AreNamed memory frame.entries ops.left (item_taken f (item.Inst p))) given ready.named))
    where
      by : (ts : List Taken) → taken_by x ≡ ts → AreNamed memory frame.entries ops.left ts (callee ∷ args) → HandsSo args
      by [] so named = absurd named
      by (t ∷ ts) so named = record {
        whole = args_whole t ts so ts args named.1 (λ u among. among);
        lent = subst (λ us. Each (IsOnStack m (said m) memory) (lent_places (drop 1 us) args)) (sym (inst_taken f p x is ∙ so)) (all_lent t ts so ts args named.1 (λ u among. among));
      }
