-- What holds of a value without an owner: its type is trivial, or it is made of such values alone. So what it may be names no object.
use Rattle.std.proofs.Common.{◌≡◌, ◌<◌, ◌⊎◌, inl, inr, ℕ, List, [], ◌∷◌, map, refl, sym, ap, ◌∙◌, subst, Bool, true, false, cond, Option, Some, None}
use Rattle.std.specs.Prelude.{Contains, slice_get}
use Rattle.std.proofs.lemmas.Option.{same_Some}
use Rattle.sil_verifier_trails.specs.sil_verifier_values.inner.Known.{IsAcceptedBody, kind_at, type_in}
use Rattle.sil_verifier_trails.specs.sil_verifier_values.inner.Nones.{WhyPlain, address, made, trivial, untyped}
use Rattle.sil_verifier_trails.specs.sil_verifier_values.inner.Operands.{HasNoOwner, kind_by_row, kind_together}
use Rattle.holder_model_laws.specs.holder_model.RunTyping.CallForms.{IsOf}
use Rattle.holder_model_laws.specs.holder_model.RunTyping.Forms.{Form, OfPlace, OfValue, form_by, form_of, form_with, forms_of}
use Rattle.sil_verifier_trails.proofs.sil_verifier_values.Accepted.{counted}
use Rattle.sil_verifier_trails.proofs.sil_verifier_values.Counted.{stands}
use Rattle.sil_verifier_trails.proofs.AcceptedFacts.Facts.{accepted_facts}
use Rattle.sil_verifier_trails.proofs.sil_verifier_values.Places.{IsArgumentOf, no_argument_and_result, results_once}
use Rattle.numbered_form.proofs.Lists.{contained}
use Rattle.sil_verifier_trails.proofs.holder_model_typing.RunTypingLaws.Declared.{each_from}
use Rattle.sil_verifier_trails.proofs.holder_model_typing.RunTypingLaws.ItemFacts.{values_counted}
use Rattle.sil_verifier_trails.proofs.holder_model_typing.RunTypingLaws.Rows.Points.{is_at}
use Rattle.holder_model_laws.specs.sil_types.Typing.Shapes.{target}
use Rattle.holder_model_laws.specs.sil_types.Typing.Values.{function_at, value_functions}
use Rattle.instruction_table.specs.Forms.{result_kind_of}
use Rattle.instruction_table.specs.declared.entries.ResultKind.{ResultKind}
use Rattle.instruction_table.specs.declared.entries.ResultKind.TheVariants.{OwnedResult, ScopeResult}
use Rattle.instruction_table.specs.declared.op.Op.{Op}
use Rattle.sil_cfg_items.specs.Items.{arg_value}
use Rattle.sil_cfg_items.specs.Parts.{inst_at}
use Rattle.numbered_form.specs.Insts.{insts_of}
use Rattle.numbered_form.specs.Lists.{Each}
use Rattle.holder_model_laws.specs.ownership_kinds_origins.Origins.{is_trivial_or_untyped}
use Rattle.numbered_form.specs.PointChecks.Points.{IsAt}
use Rattle.holder_model_laws.specs.holder_model.Data.{Datum}
use Rattle.holder_model_values.specs.RunValues.Shapes.{Shape, shape_of}
use Rattle.holder_model_values.specs.RunValues.Trivial.{is_trivial}
use Rattle.sil_ast.specs.Blocks.{args_of}
use Rattle.sil_ast.specs.declared.function.Block.{Block}
use Rattle.sil_ast.specs.declared.function.Function.{Function}
use Rattle.sil_ast.specs.declared.inst.Inst.{Inst}
use Rattle.sil_ast.specs.declared.module.Module.{Module}
use Rattle.sil_ast.specs.declared.place.FuncId.{FuncId}
use Rattle.sil_ast.specs.declared.place.PointId.{PointId}
use Rattle.sil_ast.specs.declared.place.ValueId.{ValueId}
use Rattle.sil_ast.specs.declared.type_name.TypeName.{TypeName}
use Rattle.sil_types_declarations.specs.TypeDefinitions.Declarations.{Declarations, declarations_of}
use Rattle.sil_types_declarations.specs.declared.type_definitions.kind.Kind.TheVariants as kind
use Rattle.numbered_form.specs.ValueTables.FirstValue.{value_of}
use Rattle.sil_verifier_trails.specs.holder_model_typing.TypedMemory.inner.Worlds.{DatumIs, World}
use Rattle.sil_verifier_frames.proofs.Typed.Data.{DataAre, IsBare, bare_where}
use Rattle.sil_verifier_frames.proofs.Typed.Entries.{FitEach, Fits, fit_from}
use Rattle.sil_verifier_frames.proofs.Typed.TrivialShapes.{trivial_shape}

-- its results have owners, where their types aren't trivial
abbrev pub IsOwningRow : Op → Type 0
IsOwningRow o = (result_kind_of o ≡ OwnedResult) ⊎ (result_kind_of o ≡ ScopeResult)

-- the instruction at a point is one alone
same_inst : (f : Function) (b c k l : ℕ) (i j : Inst) → IsAt f b k i → IsAt f c l j → b ≡ c → k ≡ l → i ≡ j
same_inst f b c k l i j at by block index =
    let found : slice_get f.blocks b ≡ Some by.within = ap (slice_get f.blocks) block ∙ by.is_block in
    let same : at.within ≡ by.within = let there = at.is_block in cc in
    let here : slice_get (insts_of by.within) l ≡ Some i = ap (slice_get (insts_of by.within)) (sym index) ∙ ap (λ (z : Block). slice_get (insts_of z) k) (sym same) ∙ at.is_inst in
    same_Some i j (sym here ∙ by.is_inst)

module _ (m : Module) (n : ℕ) (f : Function) (a : IsAcceptedBody m n f) where
  abbrev d : Declarations
  d = declarations_of m

  -- of whatever shape the value is, it is trivial
  abbrev pub IsTrivialValue : ValueId → Type 0
  IsTrivialValue v = (s : Shape) → form_of d f v ≡ OfValue s → is_trivial s ≡ true

  trivial_by : (o : Option TypeName) (g : Option FuncId) (s : Shape) → is_trivial_or_untyped d o ≡ true → form_by d o g ≡ OfValue s → is_trivial s ≡ true
  trivial_by None None s h e = absurd (cc)
  trivial_by None (Some g) s h e = absurd (cc)
  trivial_by (Some t) g s h e = by (target t) e
    where
      by : (u : Option TypeName) → form_with d t u ≡ OfValue s → is_trivial s ≡ true
      by None form = let same : shape_of d t ≡ s = cc in subst (λ u. is_trivial u ≡ true) same (trivial_shape d t h)
      by (Some u) form = absurd (cc)

  trivial_value : (v : ValueId) → is_trivial_or_untyped d (type_in d f v) ≡ true → IsTrivialValue v
  trivial_value v h s e = trivial_by (type_in d f v) (function_at (value_functions f) v.0) s h e

  -- the operands of the instruction that makes it have no owner either
  record MadeOfPlain (v : ValueId) : Type 0 where
    block : ℕ
    index : ℕ
    i : Inst
    here : IsAt f block index i
    gives : Contains i.results v
    plain : Each (HasNoOwner d f) (map value_of i.operands)

  why : (v : ValueId) → WhyPlain d f v → IsTrivialValue v ⊎ MadeOfPlain v
  why v (untyped e) = inl (trivial_value v (ap (is_trivial_or_untyped d) e))
  why v (trivial t e h) = inl (trivial_value v (ap (is_trivial_or_untyped d) e ∙ h))
  why v (address t u e to) = inl (λ s form.
      let place : OfPlace (shape_of d u) ≡ OfValue s =
      sym (ap (λ o. form_by d o (function_at (value_functions f) v.0)) e ∙ ap (form_with d t) to) ∙ form in
      absurd (cc))
  why v (made block index k i here at plain) = inr (record { block = block; index = index; i = i; here = here; gives = contained i.results k v at; plain = plain })

  reason : (v : ValueId) → IsOf f v → kind_at d f v ≡ kind.Plain → IsTrivialValue v ⊎ MadeOfPlain v
  reason v of plain = why v (accepted_facts.plain_are_told m n f a v (subst (λ c. v.0 < c) (values_counted f) of) plain)

  module _ (w : World) where
    -- ---- an argument of a block

    argument_fits : (b : ℕ) (v : ValueId) → IsArgumentOf f b v → IsOf f v → (x : Datum) → DatumIs m w (form_of d f v) x → Fits m w f v x
    argument_fits b v among of x is = record { is = is; bare = λ plain. by (reason v of plain) }
      where
        by : IsTrivialValue v ⊎ MadeOfPlain v → IsBare x
        by (inl so) = bare_where m w is so
        by (inr so) = absurd (no_argument_and_result f (counted m n f a) v b so.block so.index so.i among so.here so.gives)

    pub arguments_fit : (b : ℕ) → Each (IsOf f) (map arg_value (args_of f b)) → {xs : List Datum} → DataAre m w (forms_of d f (map arg_value (args_of f b))) xs
        → FitEach m w f (map arg_value (args_of f b)) xs
    arguments_fit b of typed_as = fit_from m w f vs refl typed_as (each_fits vs (each_from (IsArgumentOf f b) vs (λ k v at. contained vs k v at)) of)
      where
        vs : List ValueId
        vs = map arg_value (args_of f b)

        each_fits : (us : List ValueId) → Each (IsArgumentOf f b) us → Each (IsOf f) us → Each (λ v. (x : Datum) → DatumIs m w (form_of d f v) x → Fits m w f v x) us
        each_fits [] among of = tt
        each_fits (u ∷ us) among of = (argument_fits b u among.0 of.0, each_fits us among.1 of.1)

    -- ---- a result of an instruction

    module _ (p : PointId) (i : Inst) (there : inst_at f p ≡ Some i) where
      owning_trivial : (v : ValueId) → Contains i.results v → IsOwningRow i.op → kind_at d f v ≡ kind.Plain → IsTrivialValue v
      owning_trivial v gives owning plain =
          let at = stands i.results v gives in
          by (is_trivial_or_untyped d (type_in d f v)) refl (sym (accepted_facts.results_have_kinds m n f a p.block.0 p.index at.0 i v (is_at f p i there) at.1) ∙ plain)
        where
          no : (r : ResultKind) → result_kind_of i.op ≡ r → kind_by_row r (kind_together d f i) ≡ kind.Owned ⊎ kind_by_row r (kind_together d f i) ≡ kind.Guaranteed
              → kind_by_row (result_kind_of i.op) (kind_together d f i) ≡ kind.Plain → ⊥
          no r e (inl k) p = let two : kind.Owned ≡ kind.Plain = sym k ∙ ap (λ r. kind_by_row r (kind_together d f i)) (sym e) ∙ p in cc
          no r e (inr k) p = let two : kind.Guaranteed ≡ kind.Plain = sym k ∙ ap (λ r. kind_by_row r (kind_together d f i)) (sym e) ∙ p in cc

          not_plain : IsOwningRow i.op → kind_by_row (result_kind_of i.op) (kind_together d f i) ≡ kind.Plain → ⊥
          not_plain (inl e) p = no OwnedResult e (inl refl) p
          not_plain (inr e) p = no ScopeResult e (inr refl) p

          by : (b : Bool) → is_trivial_or_untyped d (type_in d f v) ≡ b → cond b kind.Plain (kind_by_row (result_kind_of i.op) (kind_together d f i)) ≡ kind.Plain → IsTrivialValue v
          by true e h = trivial_value v e
          by false e h = absurd (not_plain owning h)

      -- of an instruction whose result is owned
      pub owned_or_trivial : (v : ValueId) → Contains i.results v → result_kind_of i.op ≡ OwnedResult → (s : Shape) → form_of d f v ≡ OfValue s
          → (kind_at d f v ≡ kind.Owned) ⊎ ((kind_at d f v ≡ kind.Plain) × (is_trivial s ≡ true))
      owned_or_trivial v gives owned s form =
          let at = stands i.results v gives in
          by (is_trivial_or_untyped d (type_in d f v)) refl (accepted_facts.results_have_kinds m n f a p.block.0 p.index at.0 i v (is_at f p i there) at.1)
        where
          by : (b : Bool) → is_trivial_or_untyped d (type_in d f v) ≡ b → kind_at d f v ≡ cond b kind.Plain (kind_by_row (result_kind_of i.op) (kind_together d f i))
              → (kind_at d f v ≡ kind.Owned) ⊎ ((kind_at d f v ≡ kind.Plain) × (is_trivial s ≡ true))
          by true e h = inr (h, trivial_value v e s form)
          by false e h = inl (h ∙ ap (λ r. kind_by_row r (kind_together d f i)) owned)

      -- what is given names no object where the operands name none, or the row's results have owners
      abbrev pub KeepsBare : List Datum → Type 0
      KeepsBare xs = (Each (HasNoOwner d f) (map value_of i.operands) → Each IsBare xs) ⊎ IsOwningRow i.op

      result_fits : (v : ValueId) → Contains i.results v → IsOf f v → (x : Datum) → (Each (HasNoOwner d f) (map value_of i.operands) → IsBare x) ⊎ IsOwningRow i.op
          → DatumIs m w (form_of d f v) x → Fits m w f v x
      result_fits v gives of x keeps is = record { is = is; bare = λ plain. by plain (reason v of plain) }
        where
          by : kind_at d f v ≡ kind.Plain → IsTrivialValue v ⊎ MadeOfPlain v → IsBare x
          by plain (inl so) = bare_where m w is so
          by plain (inr so) = how keeps
            where
              same : so.i ≡ i
              same =
                  let here = is_at f p i there in
                  let places = results_once f (counted m n f a) v so.block p.block.0 so.index p.index so.i i so.here here so.gives gives in
                  same_inst f so.block p.block.0 so.index p.index so.i i so.here here places.0 places.1

              how : (Each (HasNoOwner d f) (map value_of i.operands) → IsBare x) ⊎ IsOwningRow i.op → IsBare x
              how (inl bare) = bare (subst (λ (j : Inst). Each (HasNoOwner d f) (map value_of j.operands)) same so.plain)
              how (inr owning) = bare_where m w is (owning_trivial v gives owning plain)

      pub results_fit : Each (IsOf f) i.results → {xs : List Datum} → DataAre m w (forms_of d f i.results) xs → KeepsBare xs → FitEach m w f i.results xs
      results_fit of typed_as keeps = each_fits i.results (each_from (Contains i.results) i.results (λ k v at. contained i.results k v at)) of refl typed_as keeps
        where
          each_fits : (us : List ValueId) → Each (Contains i.results) us → Each (IsOf f) us → {forms : List Form} {xs : List Datum} → forms_of d f us ≡ forms
              → DataAre m w forms xs → KeepsBare xs → FitEach m w f us xs
          each_fits [] among of e DataAre.none keeps = FitEach.none
          each_fits [] among of e (DataAre.more form x forms xs is rest) keeps = absurd (cc)
          each_fits (u ∷ us) among of e DataAre.none keeps = absurd (cc)
          each_fits (u ∷ us) among of e (DataAre.more form x forms xs is rest) keeps =
              let same : form_of d f u ≡ form = cc in
              let others : forms_of d f us ≡ forms = cc in
              FitEach.more u x us xs (result_fits u among.0 of.0 x (first keeps) (subst (λ y. DatumIs m w y x) (sym same) is)) (each_fits us among.1 of.1 others rest (behind keeps))
            where
              first : KeepsBare (x ∷ xs) → (Each (HasNoOwner d f) (map value_of i.operands) → IsBare x) ⊎ IsOwningRow i.op
              first (inl bare) = inl (λ plain. (bare plain).0)
              first (inr owning) = inr owning

              behind : KeepsBare (x ∷ xs) → KeepsBare xs
              behind (inl bare) = inl (λ plain. (bare plain).1)
              behind (inr owning) = inr owning
