-- The values that lowered blocks define: they rise, and all old values with names of their own are among them.
use Rattle.std.proofs.Common.{◌≡◌, ℕ, suc, ◌+◌, ◌≤◌, List, [], ◌∷◌, ◌++◌, length, map, append-nil, length-append, refl, sym, ap, ap₂, ◌∙◌, subst, arith, Bool}
use Rattle.std.proofs.Common.{true, false, cond, ◌⊎◌, inl, inr}
use Rattle.std.specs.Prelude.{◌||◌, filter}
use Rattle.std.specs.List.{flat_map, list_any}
use Rattle.std.proofs.lemmas.Bool.{eqb-true, false≢true, or_left, or_right}
use Rattle.std.proofs.lemmas.Grind.{flat_map-append}
use Rattle.sil_ast.specs.declared.function.Block.{Block}
use Rattle.sil_ast.specs.declared.function.BlockArg.{BlockArg}
use Rattle.sil_ast.specs.declared.function.Function.{Function}
use Rattle.sil_ast.specs.declared.inst.Inst.{Inst}
use Rattle.sil_ast.specs.declared.place.ValueId.{ValueId}
use Rattle.ownership_lowering_model.specs.LoweredBlocks.{args_become, block_becomes, blocks_become, has_own_name, insts_become, value_with, without_annotation}
use Rattle.ownership_lowering_model.specs.LoweredInsts.{becomes}
use Rattle.numbered_form.specs.Lists.{Each}
use Rattle.numbered_form.specs.Numbering.{AreCountedFrom, defined_in, is_value, results_of, value_of, values_of}
use Rattle.ownership_kinds_chains.specs.declared.ownership_chains.definition.Definition.{Definition}
use Rattle.ownership_kinds.specs.ownership_kinds_origins.Renamings.{renamings_of}
use Rattle.sil_types_declarations.specs.TypeDefinitions.Declarations.{Declarations}
use Rattle.ownership_lowering_laws.proofs.LoweringLaws.Known.{Known, KnownBlock, has_name}
use Rattle.numbered_form.proofs.Counted.{counted_split}
use Rattle.ownership_lowering_laws.proofs.LoweringLaws.NewValues.{new_values, spare_values_by, takes_spare}
use Rattle.ownership_lowering_laws.proofs.LoweringLaws.Rising.{AreRising, Rises, rises_along, rises_further, rises_kept, rises_none, rises_spare}
use Rattle.numbered_form.proofs.Lists.{any_cases, any_left, any_right}

-- ---- values among others

module _ (own : ValueId → Bool) where
  -- the values of the first that have names of their own are among the second
  abbrev pub Covers : List ValueId → List ValueId → Type 0
  Covers vs ws = (v : ValueId) → own v ≡ true → list_any (is_value v) vs ≡ true → list_any (is_value v) ws ≡ true

  covers_kept : (vs : List ValueId) → Covers vs (filter own vs)
  covers_kept [] v o e = e
  covers_kept (x ∷ vs) v o e = at (own x) refl (is_value v x) refl (λ h. covers_kept vs v o h) e
    where
      here : is_value v x ≡ true → own x ≡ true
      here is = let number : v.0 ≡ x.0 = eqb-true v.0 x.0 is in ap (λ n. own (value_with n)) (sym number) ∙ o

      at : (b : Bool) → own x ≡ b → (c : Bool) → is_value v x ≡ c → (list_any (is_value v) vs ≡ true → list_any (is_value v) (filter own vs) ≡ true)
          → (c || list_any (is_value v) vs) ≡ true → list_any (is_value v) (cond b (x ∷ filter own vs) (filter own vs)) ≡ true
      at true is true same rest h = or_left (is_value v x) (list_any (is_value v) (filter own vs)) same
      at true is false same rest h = or_right (is_value v x) (list_any (is_value v) (filter own vs)) (rest h)
      at false is true same rest h = absurd (false≢true (sym is ∙ here same))
      at false is false same rest h = rest h

  covers_both : (vs ws xs ys : List ValueId) → Covers vs ws → Covers xs ys → Covers (vs ++ xs) (ws ++ ys)
  covers_both vs ws xs ys g h v o e = at (any_cases (is_value v) vs xs e)
    where
      at : (list_any (is_value v) vs ≡ true) ⊎ (list_any (is_value v) xs ≡ true) → list_any (is_value v) (ws ++ ys) ≡ true
      at (inl x) = any_left (is_value v) ws ys (g v o x)
      at (inr x) = any_right (is_value v) ws ys (h v o x)

-- ---- what blocks define, by their arguments and instructions

no_more : (is : List Inst) (t : Inst) → t.results ≡ [] → flat_map results_of (is ++ t ∷ []) ≡ flat_map results_of is
no_more is t none = flat_map-append results_of is (t ∷ []) ∙ ap (λ vs. flat_map results_of is ++ (vs ++ [])) none ∙ append-nil (flat_map results_of is)

args_define : (renamings : List Definition) (args : List BlockArg) → map value_of (args_become renamings args) ≡ filter (has_name renamings) (map value_of args)
args_define renamings [] = refl
args_define renamings (a ∷ args) = at (has_own_name renamings a) (args_define renamings args)
  where
    at : (b : Bool) → map value_of (args_become renamings args) ≡ filter (has_name renamings) (map value_of args)
        → map value_of (map without_annotation (cond b (a ∷ filter (has_own_name renamings) args) (filter (has_own_name renamings) args)))
        ≡ cond b (a.value ∷ filter (has_name renamings) (map value_of args)) (filter (has_name renamings) (map value_of args))
    at true rest = ap (λ vs. a.value ∷ vs) rest
    at false rest = rest

module _ (d : Declarations) (f : Function) where
  abbrev pub own : ValueId → Bool
  own = has_name (renamings_of f)

  -- what some instructions define in lowered code
  abbrev pub New : ℕ → List Inst → List ValueId
  New spare is = flat_map results_of (insts_become d (renamings_of f) spare is)

  pub old_defines : (b : Block) → KnownBlock d f b → defined_in b ≡ map value_of b.args ++ flat_map results_of b.insts
  old_defines b k = ap (λ vs. map value_of b.args ++ vs) (no_more b.insts b.terminator k.terminator.no_results)

  pub new_defines : (spare : ℕ) (b : Block) → KnownBlock d f b
      → defined_in (block_becomes d (renamings_of f) spare b) ≡ filter own (map value_of b.args) ++ New spare b.insts
  new_defines spare b k =
      ap₂ (λ vs ws. vs ++ ws) (args_define (renamings_of f) b.args)
      (no_more (insts_become d (renamings_of f) spare b.insts) b.terminator k.terminator.no_results)

  pub next_define : (spare : ℕ) (i : Inst) (is : List Inst) → Known d f i
      → New spare (i ∷ is) ≡ (spare_values_by (takes_spare i) (value_with spare) ++ filter own i.results) ++ New (spare + 1) is
  next_define spare i is k =
      flat_map-append results_of (becomes d (value_with spare) i) (insts_become d (renamings_of f) (spare + 1) is)
      ∙ ap (λ vs. vs ++ New (spare + 1) is) (new_values d f (value_with spare) i k)

  -- ---- they cover the old ones

  spares_cover : (takes : Bool) (spare : ValueId) (vs : List ValueId) → Covers own vs (spare_values_by takes spare ++ filter own vs)
  spares_cover takes spare vs v o e = any_right (is_value v) (spare_values_by takes spare) (filter own vs) (covers_kept own vs v o e)

  insts_cover : (spare : ℕ) (is : List Inst) → Each (Known d f) is → Covers own (flat_map results_of is) (New spare is)
  insts_cover spare [] k = λ v o e. e
  insts_cover spare (i ∷ is) k =
      subst (Covers own (flat_map results_of (i ∷ is))) (sym (next_define spare i is k.0))
      (covers_both own i.results _ (flat_map results_of is) (New (spare + 1) is) (spares_cover (takes_spare i) (value_with spare) i.results)
      (insts_cover (spare + 1) is k.1))

  block_covers : (spare : ℕ) (b : Block) → KnownBlock d f b → Covers own (defined_in b) (defined_in (block_becomes d (renamings_of f) spare b))
  block_covers spare b k =
      subst (λ vs. Covers own vs (defined_in (block_becomes d (renamings_of f) spare b))) (sym (old_defines b k))
      (subst (Covers own (map value_of b.args ++ flat_map results_of b.insts)) (sym (new_defines spare b k))
      (covers_both own (map value_of b.args) _ (flat_map results_of b.insts) (New spare b.insts) (covers_kept own (map value_of b.args))
      (insts_cover spare b.insts k.insts)))

  pub blocks_cover : (spare : ℕ) (bs : List Block) → Each (KnownBlock d f) bs
      → Covers own (values_of bs) (values_of (blocks_become d (renamings_of f) spare bs))
  blocks_cover spare [] k = λ v o e. e
  blocks_cover spare (b ∷ bs) k =
      covers_both own (defined_in b) _ (values_of bs) _ (block_covers spare b k.0) (blocks_cover (spare + length b.insts) bs k.1)

  -- ---- they rise

  module _ (bound : ℕ) where
    inst_rises : (old spare : ℕ) (i : Inst) (takes : Bool) → AreCountedFrom old i.results → old + length i.results ≤ bound
        → Rises bound own old spare (spare_values_by takes (value_with spare) ++ filter own i.results) (old + length i.results) (spare + 1)
    inst_rises old spare i true c le =
        rises_along bound own old spare old (spare + 1) (old + length i.results) (spare + 1) (value_with spare ∷ []) (filter own i.results)
        (rises_spare bound own old spare) (rises_kept bound own old (spare + 1) i.results c le)
    inst_rises old spare i false c le =
        rises_further bound own old spare (old + length i.results) spare (old + length i.results) (spare + 1) (filter own i.results) (omega arith) (omega arith)
        (rises_kept bound own old spare i.results c le)

    insts_rise : (old spare : ℕ) (is : List Inst) → Each (Known d f) is → AreCountedFrom old (flat_map results_of is)
        → old + length (flat_map results_of is) ≤ bound
        → Rises bound own old spare (New spare is) (old + length (flat_map results_of is)) (spare + length is)
    insts_rise old spare [] k c le = rises_none bound own old spare (old + 0) (spare + 0) (omega arith) (omega arith)
    insts_rise old spare (i ∷ is) k c le =
        let long : length (i.results ++ flat_map results_of is) ≡ length i.results + length (flat_map results_of is) =
        length-append i.results (flat_map results_of is) in
        let parts = counted_split old i.results (flat_map results_of is) c in
        let end : (old + length i.results) + length (flat_map results_of is) ≡ old + length (i.results ++ flat_map results_of is) = omega arith in
        let spares : (spare + 1) + length is ≡ spare + suc (length is) = omega arith in
        subst (λ vs. Rises bound own old spare vs (old + length (flat_map results_of (i ∷ is))) (spare + suc (length is))) (sym (next_define spare i is k.0))
        (rises_along bound own old spare (old + length i.results) (spare + 1) (old + length (i.results ++ flat_map results_of is)) (spare + suc (length is)) _
        (New (spare + 1) is)
        (inst_rises old spare i (takes_spare i) parts.0 (omega arith))
        (subst (λ n. Rises bound own (old + length i.results) (spare + 1) (New (spare + 1) is) n (spare + suc (length is))) end
        (subst (λ n. Rises bound own (old + length i.results) (spare + 1) (New (spare + 1) is)
        ((old + length i.results) + length (flat_map results_of is)) n) spares
        (insts_rise (old + length i.results) (spare + 1) is k.1 parts.1 (omega arith)))))

    block_rises : (old spare : ℕ) (b : Block) → KnownBlock d f b → AreCountedFrom old (defined_in b) → old + length (defined_in b) ≤ bound
        → Rises bound own old spare (defined_in (block_becomes d (renamings_of f) spare b)) (old + length (defined_in b)) (spare + length b.insts)
    block_rises old spare b k c le =
        let args : List ValueId = map value_of b.args in
        let results : List ValueId = flat_map results_of b.insts in
        let long : length (defined_in b) ≡ length args + length results = ap length (old_defines b k) ∙ length-append args results in
        let parts = counted_split old args results (subst (AreCountedFrom old) (old_defines b k) c) in
        let end : (old + length args) + length results ≡ old + length (defined_in b) = omega arith in
        subst (λ vs. Rises bound own old spare vs (old + length (defined_in b)) (spare + length b.insts)) (sym (new_defines spare b k))
        (rises_along bound own old spare (old + length args) spare (old + length (defined_in b)) (spare + length b.insts) (filter own args) (New spare b.insts)
        (rises_kept bound own old spare args parts.0 (omega arith))
        (subst (λ n. Rises bound own (old + length args) spare (New spare b.insts) n (spare + length b.insts)) end
        (insts_rise (old + length args) spare b.insts k.insts parts.1 (omega arith))))

    pub blocks_rise : (old spare : ℕ) (bs : List Block) → Each (KnownBlock d f) bs → AreCountedFrom old (values_of bs) → old + length (values_of bs) ≤ bound
        → AreRising bound own old spare (values_of (blocks_become d (renamings_of f) spare bs))
    blocks_rise old spare [] k c le = tt
    blocks_rise old spare (b ∷ bs) k c le =
        let long : length (defined_in b ++ values_of bs) ≡ length (defined_in b) + length (values_of bs) = length-append (defined_in b) (values_of bs) in
        let parts = counted_split old (defined_in b) (values_of bs) c in
        block_rises old spare b k.0 parts.0 (omega arith) (values_of (blocks_become d (renamings_of f) (spare + length b.insts) bs))
        (blocks_rise (old + length (defined_in b)) (spare + length b.insts) bs k.1 parts.1 (omega arith))
