-- The cases of a `switch_enum`, made ready one by one.
use Rattle.std.proofs.Common.{◌≡◌, ℕ, ◌+◌, ◌<◌, List, [], ◌∷◌, ◌++◌, length, get_or, refl, sym, ap, ap₂, ◌∙◌, subst, arith, Option, Some, None}
use Rattle.std.specs.Prelude.{position, slice_get}
use Rattle.std.specs.Option.{IsSomeAnd, option_or}
use Rattle.std.proofs.lemmas.List.{length-append}
use Rattle.std.proofs.lemmas.Option.{get_or_from_slice_get, slice_get_within}
use Rattle.holder_model.specs.Edges.{edge_for, is_default, is_for}
use Rattle.holder_model_values.specs.RunValues.Shapes.{Shape, case_shapes}
use Rattle.sil_ast.specs.declared.function.Function.{Function}
use Rattle.sil_ast.specs.declared.inst.Edge.{Edge}
use Rattle.sil_ast.specs.declared.inst.Inst.{Inst}
use Rattle.sil_types_declarations.specs.TypeDefinitions.Declarations.{Declarations}
use Rattle.count_machine_model.specs.declared.ready_code.block.ReadyCase.{ReadyCase}
use Rattle.count_machine_model.specs.ReadyCode.ReadyEnds.{AreReadyCases, ready_case}
use Rattle.count_machine_layouts.proofs.FrameLayouts.Lists.{each_more}
use Rattle.count_machine_ready.specs.inner.Cases.{AreByCase, AreReadyTo, CaseEdge, IsCase}

module _ (d : Declarations) (f : Function) (s : Shape) (edges : List Edge) where
  abbrev IsCaseAt : ℕ → ReadyCase → Type 0
  IsCaseAt k c = IsCase d f s edges k c

  pub none_ready : (cases : List ReadyCase) → cases ≡ [] → AreReadyTo d f s edges 0 cases
  none_ready cases is = subst (AreReadyTo d f s edges 0) (sym is) (record { all = refl; each = λ k c at. absurd (cc) })

  pub one_ready : (cases more : List ReadyCase) (k : ℕ) (c : ReadyCase) → AreReadyTo d f s edges k cases
      → more ≡ cases ++ c ∷ [] → IsCase d f s edges k c → AreReadyTo d f s edges (k + 1) more
  one_ready cases more k c so_far is own = subst (AreReadyTo d f s edges (k + 1)) (sym is) (record {
    all = length-append cases (c ∷ []) ∙ ap (λ n. n + 1) so_far.all;
    each = each_more cases c IsCaseAt so_far.each (subst (λ n. IsCaseAt n c) (sym so_far.all) own);
  })

  -- the edge that is noted of a case, or the default
  module _ (count : ℕ) (chosen items : List (Option ℕ)) (by : AreByCase s edges count chosen)
      (all : count ≡ length (case_shapes s)) (same : items ≡ chosen) where
    pub place_is : (k : ℕ) → k < length items → k < length (case_shapes s)
    place_is k lt = let a = ap (λ (xs : List (Option ℕ)). length xs) same ∙ by.all ∙ all in omega arith

    pub taken_is : (k : ℕ) → k < length items → (default : Option ℕ) → default ≡ position is_default edges
        → (own : CaseEdge s edges k) → option_or (get_or items k None) default ≡ Some own.chosen
    taken_is k lt default is own =
        let at : slice_get items k ≡ Some (position (is_for s k) edges) =
        (let a = ap (λ (xs : List (Option ℕ)). length xs) same ∙ by.all in ap (λ xs. slice_get xs k) same ∙ by.each k (omega arith)) in
        ap₂ option_or (get_or_from_slice_get items k (position (is_for s k) edges) None at) is ∙ own.taken

    pub is_taken : (k : ℕ) → k < length items → (default : Option ℕ) → default ≡ position is_default edges → (own : CaseEdge s edges k)
        → IsSomeAnd (option_or (get_or items k None) default) (λ j. j < length edges)
    is_taken k lt default is own = subst (λ o. IsSomeAnd o (λ j. j < length edges)) (sym (taken_is k lt default is own))
        (slice_get_within edges own.chosen own.edge own.there)

    pub own_case : (k : ℕ) → k < length items → (default : Option ℕ) → default ≡ position is_default edges → (own : CaseEdge s edges k) → (c : ReadyCase)
        → ((j : ℕ) (e : Edge) → option_or (get_or items k None) default ≡ Some j → slice_get edges j ≡ Some e → c ≡ ready_case d f e) → IsCase d f s edges k c
    own_case k lt default is own c made = record { own = own; made = made own.chosen own.edge (taken_is k lt default is own) own.there }

    pub ready_all : (i : Inst) → edges ≡ i.edges → (k : ℕ) → k ≡ length items → (cases : List ReadyCase)
        → AreReadyTo d f s edges k cases → AreReadyCases d f i s cases
    ready_all i is k done cases made = record {
      all = made.all ∙ done ∙ ap (λ (xs : List (Option ℕ)). length xs) same ∙ by.all ∙ all;
      each = λ k c at.
          let own = made.each k c at in (
            own.own.chosen,
            own.own.edge,
            subst (λ es. edge_for s es k ≡ Some own.own.chosen) is own.own.taken,
            subst (λ es. slice_get es own.own.chosen ≡ Some own.own.edge) is own.own.there,
            own.made,
          );
    }
