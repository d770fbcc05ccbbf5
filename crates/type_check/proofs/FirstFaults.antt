-- The fault that is found first is the first by its key.
use Rattle.std.proofs.Common.{◌≡◌, ℕ, ◌+◌, ◌<◌, ◌≤◌, List, [], ◌∷◌, refl, sym, ap, ◌∙◌, subst, arith, ◌⊎◌, inl, inr, Bool, Option, Some, None}
use Rattle.std.specs.Prelude.{slice_get, ⊤, option_map}
use Rattle.std.specs.Option.{option_or}
use Rattle.std.proofs.lemmas.Bool.{cases_lt}
use Rattle.sil_ast.specs.declared.function.Block.{Block}
use Rattle.sil_ast.specs.declared.function.Function.{Function}
use Rattle.sil_ast.specs.declared.inst.Inst.{Inst}
use Rattle.sil_ast.specs.declared.module.Module.{Module}
use Rattle.sil_ast.specs.declared.vtable.Vtable.{Vtable}
use Rattle.numbered_form.specs.Insts.{insts_of}
use Rattle.sil_rules.proofs.Firsts.{first_some, first_none, first_same}
use Rattle.sil_rules.specs.Order.{NotAfter, IsFirst, Either, stage_of}
use Rattle.sil_rules.specs.Rules.{number_of, group_of}
use Rattle.sil_rules.specs.declared.rule.Rule.{Rule}
use Rattle.sil_rules.specs.declared.rule.Rule.TheVariants as rule
use Rattle.sil_types.specs.Typing.Typed.{BreaksAtFunction, BreaksAtPoint, BreaksAtVtable, BreaksAt, Site, at_function, at_point, at_vtable}
use Rattle.sil_types.specs.Typing.Typed.BreaksAt.{function, point, vtable}
use Rattle.sil_types.specs.Typing.Typed.BreaksAtFunction.{external, address_escapes, signature as function_signature, mixed_forms as function_mixed}
use Rattle.sil_types.specs.Typing.Typed.BreaksAtPoint.{operand_type, result_count, edge_arguments, callee, switch_cases, entry_has_predecessor}
use Rattle.sil_types.specs.Typing.Typed.BreaksAtPoint.{qualifier, signature as point_signature, mixed_forms as point_mixed}
use Rattle.sil_types.specs.Typing.Typed.BreaksAtVtable.{deinit_signature}
use Rattle.type_check.proofs.Firsts.{IsIn, AreInOrder, IsFirstRule, first_rule, first_of_places, at_zero, of_zero}
use Rattle.type_check.specs.inner.FirstFault.{judged_function, judged_point, judged_vtable, fault_of_inst, fault_of_block, fault_of_body, fault_of_function, fault_of_vtable, fault_of}
use Rattle.type_check.specs.inner.Firsts.{Judged, first_broken, first_from, IsAtSome}
use Rattle.type_check.specs.Refusals.{fault_at, fault_key, IsBroken}
use Rattle.type_check.specs.Refusals.IsBroken.{broken}
use Rattle.type_check.specs.declared.fault.TypingFault.{TypingFault}

-- all of the rules belong to one stage
abbrev AreOfStage : ℕ → List Judged → Type 0
AreOfStage k [] = ⊤
AreOfStage k (j ∷ js) = (stage_of (group_of j.rule) ≡ k) × AreOfStage k js

stage_in : (k : ℕ) (js : List Judged) → AreOfStage k js → (r : Rule) → IsIn js r → stage_of (group_of r) ≡ k
stage_in k [] all r h = absurd h
stage_in k (j ∷ js) all r (inl h) = subst (λ s. stage_of (group_of s) ≡ k) h.1 all.0
stage_in k (j ∷ js) all r (inr h) = stage_in k js all.1 r h

last_number : (n m : ℕ) → n ≤ m → NotAfter (n ∷ []) (m ∷ [])
last_number n m le = at (cases_lt n m)
  where
    at : (n < m) ⊎ (m ≤ n) → NotAfter (n ∷ []) (m ∷ [])
    at (inl lt) = inl lt
    at (inr ge) = inr (omega (arith, le, ge), tt)

-- at one place by rule
by_rule : (s : Site) (r t : Rule) → stage_of (group_of r) ≡ stage_of (group_of t) → number_of r ≤ number_of t → NotAfter (fault_key (fault_at s r)) (fault_key (fault_at s t))
by_rule (at_function n) r t e le = inr (e, inr (refl, inr (refl, inr (refl, inr (refl, last_number (number_of r) (number_of t) le)))))
by_rule (at_point n block index) r t e le = inr (e, inr (refl, inr (refl, inr (refl, inr (refl, last_number (number_of r) (number_of t) le)))))
by_rule (at_vtable n) r t e le = inr (refl, inr (refl, tt))

-- a rule that is broken at the site
abbrev AtSite : Site → (Rule → Type 0) → TypingFault → Type 0
AtSite s Breaks a = (r : Rule) × Breaks r × (fault_at s r ≡ a)

module _ (s : Site) (js : List Judged) (Breaks : Rule → Type 0) (k : ℕ) (rise : AreInOrder js) (stages : AreOfStage k js)
    (to : (r : Rule) → IsIn js r → Breaks r) (back : (r : Rule) → Breaks r → IsIn js r) where
  first_at_site : IsFirst fault_key (AtSite s Breaks) (option_map (fault_at s) (first_broken js))
  first_at_site = by (first_broken js) (first_rule js rise)
    where
      by : (o : Option Rule) → IsFirstRule js o → IsFirst fault_key (AtSite s Breaks) (option_map (fault_at s) o)
      by None none = λ a h. none h.0 (back h.0 h.1)
      by (Some r) first = record { shown = (r, to r first.0, refl); first = later }
        where
          later : (b : TypingFault) → AtSite s Breaks b → NotAfter (fault_key (fault_at s r)) (fault_key b)
          later b h =
              let same = stage_in k js stages r first.0 ∙ sym (stage_in k js stages h.0 (back h.0 h.1)) in
              subst (λ c. NotAfter (fault_key (fault_at s r)) (fault_key c)) h.2 (by_rule s r h.0 same (first.1 h.0 (back h.0 h.1)))

module _ (m : Module) where
  module _ (n : ℕ) (f : Function) where
    function_to : (r : Rule) → IsIn (judged_function m f) r → BreaksAtFunction m f r
    function_to r (inl h) = subst (BreaksAtFunction m f) h.1 (external h.0)
    function_to r (inr (inl h)) = subst (BreaksAtFunction m f) h.1 (function_signature h.0)
    function_to r (inr (inr (inl h))) = subst (BreaksAtFunction m f) h.1 (function_mixed h.0)
    function_to r (inr (inr (inr (inl h)))) = subst (BreaksAtFunction m f) h.1 (address_escapes h.0)
    function_to r (inr (inr (inr (inr h)))) = absurd h

    function_back : (r : Rule) → BreaksAtFunction m f r → IsIn (judged_function m f) r
    function_back _ (external e) = inl (e, refl)
    function_back _ (function_signature e) = inr (inl (e, refl))
    function_back _ (function_mixed e) = inr (inr (inl (e, refl)))
    function_back _ (address_escapes e) = inr (inr (inr (inl (e, refl))))

    -- what is broken at the function itself
    abbrev AtFunction : TypingFault → Type 0
    AtFunction = AtSite (at_function n) (BreaksAtFunction m f)

    function_in_order : AreInOrder (judged_function m f)
    function_in_order = ((omega arith, (omega arith, (omega arith, tt))), ((omega arith, (omega arith, tt)), ((omega arith, tt), (tt, tt))))

    first_at_function : IsFirst fault_key AtFunction (option_map (fault_at (at_function n)) (first_broken (judged_function m f)))
    first_at_function = first_at_site (at_function n) (judged_function m f) (BreaksAtFunction m f) 4 function_in_order (refl, (refl, (refl, (refl, tt)))) function_to function_back

    module _ (block index : ℕ) (i : Inst) where
      point_to : (r : Rule) → IsIn (judged_point m f block index i) r → BreaksAtPoint m f block index i r
      point_to r (inl h) = subst (BreaksAtPoint m f block index i) h.1 (operand_type h.0)
      point_to r (inr (inl h)) = subst (BreaksAtPoint m f block index i) h.1 (result_count h.0)
      point_to r (inr (inr (inl h))) = subst (BreaksAtPoint m f block index i) h.1 (edge_arguments h.0)
      point_to r (inr (inr (inr (inl h)))) = subst (BreaksAtPoint m f block index i) h.1 (callee h.0)
      point_to r (inr (inr (inr (inr (inl h))))) = subst (BreaksAtPoint m f block index i) h.1 (point_signature h.0)
      point_to r (inr (inr (inr (inr (inr (inl h)))))) = subst (BreaksAtPoint m f block index i) h.1 (point_mixed h.0)
      point_to r (inr (inr (inr (inr (inr (inr (inl h))))))) = subst (BreaksAtPoint m f block index i) h.1 (switch_cases h.0)
      point_to r (inr (inr (inr (inr (inr (inr (inr (inl h)))))))) = subst (BreaksAtPoint m f block index i) h.1 (entry_has_predecessor h.0)
      point_to r (inr (inr (inr (inr (inr (inr (inr (inr (inl h))))))))) = subst (BreaksAtPoint m f block index i) h.1 (qualifier h.0)
      point_to r (inr (inr (inr (inr (inr (inr (inr (inr (inr h))))))))) = absurd h

      point_back : (r : Rule) → BreaksAtPoint m f block index i r → IsIn (judged_point m f block index i) r
      point_back _ (operand_type e) = inl (e, refl)
      point_back _ (result_count e) = inr (inl (e, refl))
      point_back _ (edge_arguments e) = inr (inr (inl (e, refl)))
      point_back _ (callee e) = inr (inr (inr (inl (e, refl))))
      point_back _ (point_signature e) = inr (inr (inr (inr (inl (e, refl)))))
      point_back _ (point_mixed e) = inr (inr (inr (inr (inr (inl (e, refl))))))
      point_back _ (switch_cases e) = inr (inr (inr (inr (inr (inr (inl (e, refl)))))))
      point_back _ (entry_has_predecessor e) = inr (inr (inr (inr (inr (inr (inr (inl (e, refl))))))))
      point_back _ (qualifier e) = inr (inr (inr (inr (inr (inr (inr (inr (inl (e, refl)))))))))

      point_in_order : AreInOrder (judged_point m f block index i)
      point_in_order = (
        (omega arith, (omega arith, (omega arith, (omega arith, (omega arith, (omega arith, (omega arith, (omega arith, tt)))))))),
        (
          (omega arith, (omega arith, (omega arith, (omega arith, (omega arith, (omega arith, (omega arith, tt))))))),
          (
            (omega arith, (omega arith, (omega arith, (omega arith, (omega arith, (omega arith, tt)))))),
            (
              (omega arith, (omega arith, (omega arith, (omega arith, (omega arith, tt))))),
              ((omega arith, (omega arith, (omega arith, (omega arith, tt)))), ((omega arith, (omega arith, (omega arith, tt))), ((omega arith, (omega arith, tt)), ((omega arith, tt), (tt, tt))))),
            ),
          ),
        ),
      )

    -- what is broken at an instruction
    abbrev AtInst : ℕ → ℕ → Inst → TypingFault → Type 0
    AtInst block index i = AtSite (at_point n block index) (BreaksAtPoint m f block index i)

    first_at_inst : (block index : ℕ) (i : Inst) → IsFirst fault_key (AtInst block index i) (fault_of_inst m n f block index i)
    first_at_inst block index i = first_at_site (at_point n block index) (judged_point m f block index i) (BreaksAtPoint m f block index i) 4
        (point_in_order block index i) (refl, (refl, (refl, (refl, (refl, (refl, (refl, (refl, (refl, tt))))))))) (point_to block index i) (point_back block index i)

    pub stage_at_point : (block index : ℕ) (i : Inst) (r : Rule) → BreaksAtPoint m f block index i r → stage_of (group_of r) ≡ 4
    stage_at_point block index i r h = stage_in 4 (judged_point m f block index i) (refl, (refl, (refl, (refl, (refl, (refl, (refl, (refl, (refl, tt))))))))) r (point_back block index i r h)

    pub stage_at_function : (r : Rule) → BreaksAtFunction m f r → stage_of (group_of r) ≡ 4
    stage_at_function r h = stage_in 4 (judged_function m f) (refl, (refl, (refl, (refl, tt)))) r (function_back r h)

    insts_in_order : (block k l : ℕ) (i j : Inst) (a b : TypingFault) → k < l → AtInst block k i a → AtInst block l j b → NotAfter (fault_key a) (fault_key b)
    insts_in_order block k l i j a b lt h g =
        subst (λ c. NotAfter (fault_key c) (fault_key b)) h.2
        (subst (λ c. NotAfter (fault_key (fault_at (at_point n block k) h.0)) (fault_key c)) g.2
        (inr (stage_at_point block k i h.0 h.1 ∙ sym (stage_at_point block l j g.0 g.1), inr (refl, inr (refl, inr (refl, inl lt))))))

    -- what is broken in a block
    abbrev InBlock : ℕ → Block → TypingFault → Type 0
    InBlock block b = IsAtSome (AtInst block) 0 (insts_of b)

    first_in_block : (block : ℕ) (b : Block) → IsFirst fault_key (InBlock block b) (fault_of_block m n f block b)
    first_in_block block b = first_of_places fault_key (AtInst block) (fault_of_inst m n f block) (first_at_inst block) (insts_in_order block) 0 (insts_of b)

    blocks_in_order : (k l : ℕ) (x y : Block) (a b : TypingFault) → k < l → InBlock k x a → InBlock l y b → NotAfter (fault_key a) (fault_key b)
    blocks_in_order k l x y a b lt h g =
        subst (λ c. NotAfter (fault_key c) (fault_key b)) h.is.2
        (subst (λ c. NotAfter (fault_key (fault_at (at_point n k (0 + h.index)) h.is.0)) (fault_key c)) g.is.2
        (inr (stage_at_point k (0 + h.index) h.place h.is.0 h.is.1 ∙ sym (stage_at_point l (0 + g.index) g.place g.is.0 g.is.1), inr (refl, inr (refl, inl lt)))))

    -- what is broken at the function's points
    abbrev InBody : TypingFault → Type 0
    InBody = IsAtSome InBlock 0 f.blocks

    first_in_body : IsFirst fault_key InBody (fault_of_body m n f)
    first_in_body = first_of_places fault_key InBlock (fault_of_block m n f) first_in_block blocks_in_order 0 f.blocks

    body_behind : (a b : TypingFault) → AtFunction a → InBody b → NotAfter (fault_key a) (fault_key b)
    body_behind a b h g =
        subst (λ c. NotAfter (fault_key c) (fault_key b)) h.2
        (subst (λ c. NotAfter (fault_key (fault_at (at_function n) h.0)) (fault_key c)) g.is.is.2
        (inr (stage_at_function h.0 h.1 ∙ sym (stage_at_point (0 + g.index) (0 + g.is.index) g.is.place g.is.is.0 g.is.is.1), inr (refl, inl (omega arith)))))

    -- what is broken in the function
    abbrev InFunction : TypingFault → Type 0
    InFunction = Either AtFunction InBody

    first_in_function : IsFirst fault_key InFunction (fault_of_function m n f)
    first_in_function = by (option_map (fault_at (at_function n)) (first_broken (judged_function m f))) first_at_function
      where
        by : (o : Option TypingFault) → IsFirst fault_key AtFunction o → IsFirst fault_key InFunction (option_or o (fault_of_body m n f))
        by None none = first_none fault_key AtFunction InBody (fault_of_body m n f) none first_in_body
        by (Some a) least = first_some fault_key AtFunction InBody a least (λ b h. body_behind a b least.shown h)

  function_of_stage : (n : ℕ) (f : Function) (a : TypingFault) → InFunction n f a → (k : ℕ) × (rest : List ℕ) × (k ≡ 4) × (fault_key a ≡ k ∷ n ∷ rest)
  function_of_stage n f a (inl h) =
      (stage_of (group_of h.0), 0 ∷ 0 ∷ 0 ∷ number_of h.0 ∷ [], stage_at_function n f h.0 h.1, sym (ap fault_key h.2))
  function_of_stage n f a (inr h) = (
    stage_of (group_of h.is.is.0),
    1 ∷ (0 + h.index) ∷ (0 + h.is.index) ∷ number_of h.is.is.0 ∷ [],
    stage_at_point n f (0 + h.index) (0 + h.is.index) h.is.place h.is.is.0 h.is.is.1,
    sym (ap fault_key h.is.is.2),
  )

  functions_in_order : (k l : ℕ) (x y : Function) (a b : TypingFault) → k < l → InFunction k x a → InFunction l y b → NotAfter (fault_key a) (fault_key b)
  functions_in_order k l x y a b lt h g =
      let one = function_of_stage k x a h in
      let other = function_of_stage l y b g in
      subst (λ c. NotAfter c (fault_key b)) (sym one.3) (subst (λ c. NotAfter (one.0 ∷ k ∷ one.1) c) (sym other.3) (inr (one.2 ∙ sym other.2, inl lt)))

  -- what is broken in some function
  abbrev InFunctions : TypingFault → Type 0
  InFunctions = IsAtSome InFunction 0 m.functions

  first_in_functions : IsFirst fault_key InFunctions (first_from (fault_of_function m) 0 m.functions)
  first_in_functions = first_of_places fault_key InFunction (fault_of_function m) first_in_function functions_in_order 0 m.functions

  -- what is broken at a vtable
  abbrev AtVtable : ℕ → Vtable → TypingFault → Type 0
  AtVtable n v = AtSite (at_vtable n) (BreaksAtVtable m v)

  vtable_to : (v : Vtable) (r : Rule) → IsIn (judged_vtable m v) r → BreaksAtVtable m v r
  vtable_to v r (inl h) = subst (BreaksAtVtable m v) h.1 (deinit_signature h.0)
  vtable_to v r (inr h) = absurd h

  vtable_back : (v : Vtable) (r : Rule) → BreaksAtVtable m v r → IsIn (judged_vtable m v) r
  vtable_back v _ (deinit_signature e) = inl (e, refl)

  first_at_vtable : (n : ℕ) (v : Vtable) → IsFirst fault_key (AtVtable n v) (fault_of_vtable m n v)
  first_at_vtable n v = first_at_site (at_vtable n) (judged_vtable m v) (BreaksAtVtable m v) 5 (tt, tt) (refl, tt) (vtable_to v) (vtable_back v)

  vtables_in_order : (k l : ℕ) (x y : Vtable) (a b : TypingFault) → k < l → AtVtable k x a → AtVtable l y b → NotAfter (fault_key a) (fault_key b)
  vtables_in_order k l x y a b lt h g =
      subst (λ c. NotAfter (fault_key c) (fault_key b)) h.2 (subst (λ c. NotAfter (fault_key (fault_at (at_vtable k) h.0)) (fault_key c)) g.2 (inr (refl, inl lt)))

  -- what is broken at some vtable
  abbrev InVtables : TypingFault → Type 0
  InVtables = IsAtSome AtVtable 0 m.vtables

  first_in_vtables : IsFirst fault_key InVtables (first_from (fault_of_vtable m) 0 m.vtables)
  first_in_vtables = first_of_places fault_key AtVtable (fault_of_vtable m) first_at_vtable vtables_in_order 0 m.vtables

  vtables_behind : (a b : TypingFault) → InFunctions a → InVtables b → NotAfter (fault_key a) (fault_key b)
  vtables_behind a b h g =
      let one = function_of_stage (0 + h.index) h.place a h.is in
      subst (λ c. NotAfter c (fault_key b)) (sym one.3) (subst (λ c. NotAfter (one.0 ∷ (0 + h.index) ∷ one.1) (fault_key c)) g.is.2 (inl (let e = one.2 in omega (arith, e))))

  all_first : IsFirst fault_key (Either InFunctions InVtables) (fault_of m)
  all_first = by (first_from (fault_of_function m) 0 m.functions) first_in_functions
    where
      by : (o : Option TypingFault) → IsFirst fault_key InFunctions o → IsFirst fault_key (Either InFunctions InVtables) (option_or o (first_from (fault_of_vtable m) 0 m.vtables))
      by None none = first_none fault_key InFunctions InVtables (first_from (fault_of_vtable m) 0 m.vtables) none first_in_vtables
      by (Some a) least = first_some fault_key InFunctions InVtables a least (λ b h. vtables_behind a b least.shown h)

  broken_in_function : (n : ℕ) (f : Function) → slice_get m.functions n ≡ Some f → (a : TypingFault) → InFunction n f a → IsBroken m a
  broken_in_function n f there a (inl h) = subst (IsBroken m) h.2 (broken (at_function n) h.0 (function n f h.0 there h.1))
  broken_in_function n f there a (inr h) = at_block h.index h.place h.there (of_zero (InBlock n f) h.index h.place a h.is)
    where
      at_inst : (block : ℕ) (b : Block) → slice_get f.blocks block ≡ Some b → (index : ℕ) (i : Inst) → slice_get (insts_of b) index ≡ Some i → AtInst n f block index i a → IsBroken m a
      at_inst block b eb index i ei g =
          subst (IsBroken m) g.2
          (broken (at_point n block index) g.0 (point n f block index i g.0 there (record { within = b; is_block = eb; is_inst = ei }) g.1))

      at_block : (block : ℕ) (b : Block) → slice_get f.blocks block ≡ Some b → InBlock n f block b a → IsBroken m a
      at_block block b eb g = at_inst block b eb g.index g.place g.there (of_zero (AtInst n f block) g.index g.place a g.is)

  is_broken : (a : TypingFault) → Either InFunctions InVtables a → IsBroken m a
  is_broken a (inl h) = broken_in_function h.index h.place h.there a (of_zero InFunction h.index h.place a h.is)
  is_broken a (inr h) = at h.index h.place h.there (of_zero AtVtable h.index h.place a h.is)
    where
      at : (n : ℕ) (v : Vtable) → slice_get m.vtables n ≡ Some v → AtVtable n v a → IsBroken m a
      at n v there g = subst (IsBroken m) g.2 (broken (at_vtable n) g.0 (vtable n v g.0 there g.1))

  is_found : (a : TypingFault) → IsBroken m a → Either InFunctions InVtables a
  is_found _ (broken _ _ (function n f r there b)) =
      inl (record { index = n; place = f; there = there; is = at_zero InFunction n f (fault_at (at_function n) r) (inl (r, b, refl)) })
  is_found _ (broken _ _ (point n f block index i r there at b)) =
      let a = fault_at (at_point n block index) r in
      let inst = at_zero (AtInst n f block) index i a (r, b, refl) in
      let within = at_zero (InBlock n f) block at.within a (record { index = index; place = i; there = at.is_inst; is = inst }) in
      inl (record { index = n; place = f; there = there; is = at_zero InFunction n f a (inr (record { index = block; place = at.within; there = at.is_block; is = within })) })
  is_found _ (broken _ _ (vtable n v r there b)) =
      inr (record { index = n; place = v; there = there; is = at_zero AtVtable n v (fault_at (at_vtable n) r) (r, b, refl) })

  -- the first fault that is found is the first of all that is broken
  pub first_fault : IsFirst fault_key (IsBroken m) (fault_of m)
  first_fault = first_same fault_key (Either InFunctions InVtables) (IsBroken m) is_broken is_found (fault_of m) all_first
