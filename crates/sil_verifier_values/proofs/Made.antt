-- Which items make a value: those at one stop, and all of them lead to one point.
use Rattle.std.proofs.Common.{◌≡◌, ℕ, zero, suc, ◌+◌, ◌<◌, List, [], ◌∷◌, ◌++◌, append-nil, length, map, refl, sym, ap, ap₂, ◌∙◌, subst, arith, true, false, Option, Some, None, ◌⊎◌, inl, inr}
use Rattle.std.specs.Prelude.{◌&&◌, ◌==◌, Contains, option_map, slice_get, unwrap_or}
use Rattle.std.proofs.lemmas.Bool.{and_parts, eq-eqb, eqb-false, eqb-true}
use Rattle.std.specs.List.{flat_map}
use Rattle.std.proofs.lemmas.List.{length-map}
use Rattle.std.proofs.lemmas.Option.{slice_get-map}
use Rattle.holder_model_typing.specs.holder_model.Standing.{behind, first_point, point_behind, target_of}
use Rattle.sil_cfg_items.specs.Items.{arg_value, item_defined}
use Rattle.sil_cfg_items.specs.Parts.{args_behind, edge_at, edge_in, inst_at, inst_in, results_in, terminator_in, terminator_of}
use Rattle.numbered_form.specs.Insts.{insts_of}
use Rattle.numbered_form.specs.Numbering.{AreCountedFrom, defined_in, results_of}
use Rattle.sil_verifier_accepted.specs.ownership_kinds.Statics.{IsDefinedAt}
use Rattle.sil_verifier_accepted.specs.ownership_kinds.Statics.IsDefinedAt.{argument as of_block, result as of_inst}
use Rattle.numbered_form.specs.PointChecks.Points.{IsAt}
use Rattle.holder_model_typing.proofs.RunTypingLaws.ItemFacts.{item_is_of}
use Rattle.holder_model_typing.proofs.RunTypingLaws.ListFacts.{get_below}
use Rattle.holder_model_typing.proofs.RunTypingLaws.Rows.Finding.{fails_at}
use Rattle.sil_ast.specs.Blocks.{args_in, args_of}
use Rattle.sil_ast.specs.declared.function.Block.{Block}
use Rattle.sil_ast.specs.declared.function.Function.{Function}
use Rattle.sil_ast.specs.declared.inst.Edge as edge
use Rattle.sil_ast.specs.declared.inst.Inst as inst
use Rattle.sil_ast.specs.declared.module.Module.{Module}
use Rattle.sil_ast.specs.declared.place.EdgeId.{EdgeId}
use Rattle.sil_ast.specs.declared.place.PointId.{PointId}
use Rattle.sil_ast.specs.declared.place.ValueId.{ValueId}
use Rattle.sil_cfg.specs.Flow.{edge_to}
use Rattle.sil_cfg.specs.Items.{IsItem, flow_of, point_at, targets_in}
use Rattle.sil_cfg.specs.declared.item.Item.{Item}
use Rattle.sil_cfg.specs.declared.item.Item.TheVariants.{Entry, Inst, Edge, Exit}
use Rattle.sil_cfg.specs.inner.Splice.{Stop, into, is_at, item, same_item}
use Rattle.holder_model_typing.specs.sil_types.Typing.EdgeRules.{goes_to_entry, is_to_entry}
use Rattle.numbered_form.proofs.Counted.{counted_split}
use Rattle.sil_verifier_accepted.proofs.ownership_kinds.Defined.{defined_somewhere}
use Rattle.sil_verifier_values.specs.inner.Known.{IsAcceptedBody}
use Rattle.sil_verifier_values.specs.inner.Making.{AreDistinct, AreItemsOf, AreMadeOnce, AreMadeSomewhere, AreMadeThere, AreParametersOfEntry, IsMadeAt, Makes, argument, parameter, result}
use Rattle.sil_verifier_values.proofs.Accepted.{counted, typed}
use Rattle.sil_verifier_values.proofs.Counted.{contains_map, counted_in, nothing_in, stands_once}
use Rattle.sil_verifier_values.proofs.Places.{IsArgumentOf, arguments_once, no_argument_and_result, results_once}

-- ---- the ways in which an item makes a value

data MadeBy (f : Function) (v : ValueId) : Item → Type 0 where
  by_entry : IsArgumentOf f 0 v → MadeBy f v Entry
  by_inst : (p : PointId) (i : inst.Inst) → inst_at f p ≡ Some i → Contains i.results v → MadeBy f v (Inst p)
  by_edge : (e : EdgeId) (x : edge.Edge) → edge_at f e ≡ Some x → IsArgumentOf f x.block.0 v → MadeBy f v (Edge e)

made_by : (f : Function) (v : ValueId) (i : Item) → Makes f i v → MadeBy f v i
made_by f v Entry c = by_entry c
made_by f v (Inst p) c = at (inst_at f p) refl (subst (λ vs. Contains vs v) (append-nil (results_in (inst_at f p))) c)
  where
    at : (o : Option inst.Inst) → inst_at f p ≡ o → Contains (results_in o) v → MadeBy f v (Inst p)
    at None e h = absurd (nothing_in v h)
    at (Some i) e h = by_inst p i e h
made_by f v (Edge e) c = at (edge_at f e) refl c
  where
    at : (o : Option edge.Edge) → edge_at f e ≡ o → Contains (map arg_value (args_behind f o)) v → MadeBy f v (Edge e)
    at None is h = absurd (nothing_in v h)
    at (Some x) is h = by_edge e x is h
made_by f v (Exit p) c = absurd (nothing_in v c)

inst_makes : (f : Function) (v : ValueId) (p : PointId) (i : inst.Inst) → inst_at f p ≡ Some i → Contains i.results v → Makes f (Inst p) v
inst_makes f v p i e c = subst (λ (o : Option inst.Inst). Contains (results_in o ++ []) v) (sym e) (subst (λ vs. Contains vs v) (sym (append-nil i.results)) c)

edge_makes : (f : Function) (v : ValueId) (e : EdgeId) (x : edge.Edge) → edge_at f e ≡ Some x → IsArgumentOf f x.block.0 v → Makes f (Edge e) v
edge_makes f v e x is c = subst (λ (o : Option edge.Edge). Contains (map arg_value (args_behind f o)) v) (sym is) c

-- ---- edges, and the blocks to which they go

record IsEdgeOf (f : Function) (e : EdgeId) (x : edge.Edge) : Type 0 where
  terminator : inst.Inst
  ends : terminator_of f e.block.0 ≡ Some terminator
  there : slice_get terminator.edges e.index ≡ Some x

edge_there : (f : Function) (e : EdgeId) (x : edge.Edge) → edge_at f e ≡ Some x → IsEdgeOf f e x
edge_there f e x is = at (terminator_of f e.block.0) refl is
  where
    at : (o : Option inst.Inst) → terminator_of f e.block.0 ≡ o → edge_in o e.index ≡ Some x → IsEdgeOf f e x
    at None ends h = cc
    at (Some t) ends h = record { terminator = t; ends = ends; there = h }

goes_there : (f : Function) (e : EdgeId) (x : edge.Edge) → edge_at f e ≡ Some x → edge_to (flow_of f) e ≡ x.block.0
goes_there f e x is = at (slice_get f.blocks e.block.0) is
  where
    at : (o : Option Block) → edge_in (terminator_in o) e.index ≡ Some x → unwrap_or (slice_get (targets_in o) e.index) 0 ≡ x.block.0
    at None h = cc
    at (Some b) h = ap (λ (o : Option ℕ). unwrap_or o 0) (slice_get-map (λ (y : edge.Edge). y.block.0) b.terminator.edges e.index ∙ ap (option_map (λ (y : edge.Edge). y.block.0)) h)

is_edge : (f : Function) (e : EdgeId) → IsItem f (Edge e) → (x : edge.Edge) × (edge_at f e ≡ Some x)
is_edge f e lt = at (slice_get f.blocks e.block.0) lt
  where
    at : (o : Option Block) → e.index < length (targets_in o) → (x : edge.Edge) × (edge_in (terminator_in o) e.index ≡ Some x)
    at None h = absurd (omega arith)
    at (Some b) h =
        let long : length (targets_in (Some b)) ≡ length b.terminator.edges = length-map b.terminator.edges (λ (y : edge.Edge). y.block.0) in
        get_below b.terminator.edges e.index (omega arith)

same_point : (p q : PointId) → p.block.0 ≡ q.block.0 → p.index ≡ q.index → p ≡ q
same_point p q b k = ap₂ (λ x y. let r : PointId = record { block = record { 0 = x }; index = y } in r) b k

-- an instruction of a block, or its terminator
inside_or_last : {A : Type 0} (xs : List A) (x y : A) (k : ℕ) → slice_get (xs ++ x ∷ []) k ≡ Some y → (slice_get xs k ≡ Some y) ⊎ (x ≡ y)
inside_or_last [] x y zero e = inr (cc)
inside_or_last [] x y (suc k) e = cc
inside_or_last (z ∷ xs) x y zero e = inl e
inside_or_last (z ∷ xs) x y (suc k) e = inside_or_last xs x y k e

module _ (m : Module) (n : ℕ) (f : Function) (a : IsAcceptedBody m n f) where
  -- 211: no edge goes to the entry
  not_to_entry : (e : EdgeId) (x : edge.Edge) → edge_at f e ≡ Some x → x.block.0 ≡ 0 → ⊥
  unfolding goes_to_entry
  not_to_entry e x is zero_is =
      let it = edge_there f e x is in
      let end = (typed m n f a).ends e.block.0 it.terminator it.ends in
      let kept : goes_to_entry it.terminator ≡ false = ((typed m n f a).insts e.block.0 end.0 it.terminator end.2).entry in
      eqb-false x.block.0 0 (fails_at is_to_entry it.terminator.edges e.index x kept it.there) zero_is

  module _ (v : ValueId) where
    inst_place : (p : PointId) (i : inst.Inst) → inst_at f p ≡ Some i → IsAt f p.block.0 p.index i
    inst_place p i e = ((typed m n f a).inside p i e).1

    one_argument : (b c : ℕ) → IsArgumentOf f b v → IsArgumentOf f c v → b ≡ c
    one_argument = arguments_once f (counted m n f a) v

    one_result : (p q : PointId) (i j : inst.Inst) → inst_at f p ≡ Some i → inst_at f q ≡ Some j → Contains i.results v → Contains j.results v → p ≡ q
    one_result p q i j e h c k =
        let both = results_once f (counted m n f a) v p.block.0 q.block.0 p.index q.index i j (inst_place p i e) (inst_place q j h) c k in
        same_point p q both.0 both.1

    not_both : {A : Type 0} (b : ℕ) (p : PointId) (i : inst.Inst) → IsArgumentOf f b v → inst_at f p ≡ Some i → Contains i.results v → A
    not_both b p i c e h = absurd (no_argument_and_result f (counted m n f a) v b p.block.0 p.index i c (inst_place p i e) h)

    -- ---- all items that make the value lead to one point

    behind_edge : (e : EdgeId) (x : edge.Edge) → edge_at f e ≡ Some x → behind f (Edge e) ≡ first_point x.block.0
    behind_edge e x is = ap (λ o. first_point (target_of o)) is

    lead_on : (i j : Item) → MadeBy f v i → MadeBy f v j → behind f i ≡ behind f j
    lead_on _ _ (by_entry c) (by_entry h) = refl
    lead_on _ _ (by_entry c) (by_inst p i e h) = not_both 0 p i c e h
    lead_on _ _ (by_entry c) (by_edge e x is h) = ap first_point (one_argument 0 x.block.0 c h) ∙ sym (behind_edge e x is)
    lead_on _ _ (by_inst p i e c) (by_entry h) = not_both 0 p i h e c
    lead_on _ _ (by_inst p i e c) (by_inst q j k h) = ap point_behind (one_result p q i j e k c h)
    lead_on _ _ (by_inst p i e c) (by_edge d x is h) = not_both x.block.0 p i h e c
    lead_on _ _ (by_edge e x is c) (by_entry h) = behind_edge e x is ∙ ap first_point (one_argument x.block.0 0 c h)
    lead_on _ _ (by_edge e x is c) (by_inst p i k h) = not_both x.block.0 p i c k h
    lead_on _ _ (by_edge e x is c) (by_edge d y so h) = behind_edge e x is ∙ ap first_point (one_argument x.block.0 y.block.0 c h) ∙ sym (behind_edge d y so)

    by_entry_alone : (i : Item) → IsArgumentOf f 0 v → MadeBy f v i → i ≡ Entry
    by_entry_alone _ c (by_entry h) = refl
    by_entry_alone _ c (by_inst p i e h) = not_both 0 p i c e h
    by_entry_alone _ c (by_edge e x is h) = absurd (not_to_entry e x is (one_argument x.block.0 0 h c))

    -- ---- the stop at which it is made

    at_point : (p q : PointId) → p ≡ q → same_item (Inst p) (Inst q) ≡ true
    at_point p q e =
        ap₂ (λ x y. x && y) (eq-eqb p.block.0 q.block.0 (ap (λ (r : PointId). r.block.0) e)) (eq-eqb p.index q.index (ap (λ (r : PointId). r.index) e))

    stops : (s : Stop) (i : Item) → IsMadeAt f v s → MadeBy f v i → is_at (flow_of f) s i ≡ true
    stops _ _ (result p i e c) (by_entry h) = not_both 0 p i h e c
    stops _ _ (result p i e c) (by_inst q j k h) = at_point q p (one_result q p j i k e h c)
    stops _ _ (result p i e c) (by_edge d x is h) = not_both x.block.0 p i h e c
    stops _ _ (parameter c) (by_entry h) = refl
    stops _ _ (parameter c) (by_inst p i e h) = not_both 0 p i c e h
    stops _ _ (parameter c) (by_edge e x is h) = absurd (not_to_entry e x is (one_argument x.block.0 0 h c))
    stops _ _ (argument b lt c) (by_entry h) = absurd (let none : b ≡ 0 = one_argument b 0 c h in omega arith)
    stops _ _ (argument b lt c) (by_inst p i e h) = not_both b p i c e h
    stops _ _ (argument b lt c) (by_edge e x is h) = eq-eqb (edge_to (flow_of f) e) b (goes_there f e x is ∙ one_argument x.block.0 b h c)

    point_of_stop : (p q : PointId) → same_item (Inst p) (Inst q) ≡ true → p ≡ q
    point_of_stop p q e =
        let both = and_parts (p.block.0 == q.block.0) (p.index == q.index) e in
        same_point p q (eqb-true p.block.0 q.block.0 both.0) (eqb-true p.index q.index both.1)

    makes_there : (s : Stop) (i : Item) → IsMadeAt f v s → IsItem f i → is_at (flow_of f) s i ≡ true → Makes f i v
    makes_there _ Entry (result p i e c) is h = cc
    makes_there _ (Inst q) (result p i e c) is h = inst_makes f v q i (ap (inst_at f) (point_of_stop q p h) ∙ e) c
    makes_there _ (Edge d) (result p i e c) is h = cc
    makes_there _ (Exit q) (result p i e c) is h = cc
    makes_there _ Entry (parameter c) is h = c
    makes_there _ (Inst q) (parameter c) is h = cc
    makes_there _ (Edge d) (parameter c) is h = cc
    makes_there _ (Exit q) (parameter c) is h = cc
    makes_there _ Entry (argument b lt c) is h = cc
    makes_there _ (Inst q) (argument b lt c) is h = cc
    makes_there _ (Edge d) (argument b lt c) is h =
        let x = is_edge f d is in
        let to : b ≡ x.0.block.0 = sym (eqb-true (edge_to (flow_of f) d) b h) ∙ goes_there f d x.0 x.1 in
        edge_makes f v d x.0 x.1 (subst (λ k. IsArgumentOf f k v) to c)
    makes_there _ (Exit q) (argument b lt c) is h = cc

    -- a terminator has no results
    pub at_point_of_result : (b k : ℕ) (i : inst.Inst) → IsAt f b k i → Contains i.results v → inst_at f (point_at b k) ≡ Some i
    at_point_of_result b k i at c = by (inside_or_last at.within.insts at.within.terminator i k at.is_inst)
      where
        by : (slice_get at.within.insts k ≡ Some i) ⊎ (at.within.terminator ≡ i) → inst_at f (point_at b k) ≡ Some i
        by (inl e) = ap (λ o. inst_in o k) at.is_block ∙ e
        by (inr same) =
            let end = (typed m n f a).ends b i (ap terminator_in at.is_block ∙ ap (λ t. Some t) same) in
            absurd (nothing_in v (subst (λ vs. Contains vs v) end.1.no_results c))

    at_result : (b k : ℕ) (i : inst.Inst) → IsAt f b k i → Contains i.results v → (s : Stop) × IsMadeAt f v s
    at_result b k i at c = (item (Inst (point_at b k)), result (point_at b k) i (at_point_of_result b k i at c) c)

    at_argument : (b : ℕ) → IsArgumentOf f b v → (s : Stop) × IsMadeAt f v s
    at_argument zero c = (item Entry, parameter c)
    at_argument (suc b) c = (into (suc b), argument (suc b) (omega arith) c)

    somewhere : (b k : ℕ) → IsDefinedAt f v b k → (s : Stop) × IsMadeAt f v s
    somewhere _ _ (of_inst b k i at c) = at_result b k i at c
    somewhere _ _ (of_block b block x is c e) =
        at_argument b (subst (λ o. Contains (map arg_value (args_in o)) v) (sym is) (subst (λ w. Contains (map arg_value block.args) w) e (contains_map arg_value block.args x c)))

  -- ---- an item's values are counted

  args_counted : (b : ℕ) → (t : ℕ) × AreCountedFrom t (map arg_value (args_of f b))
  args_counted b = at (slice_get f.blocks b) refl
    where
      at : (o : Option Block) → slice_get f.blocks b ≡ o → (t : ℕ) × AreCountedFrom t (map arg_value (args_in o))
      at None e = (0, tt)
      at (Some block) e =
          let all = counted_in defined_in 0 f.blocks b block (counted m n f a) e in
          (all.0, (counted_split all.0 (map arg_value block.args) (flat_map results_of (insts_of block)) all.1).0)

  results_counted : (p : PointId) (o : Option inst.Inst) → inst_at f p ≡ o → (t : ℕ) × AreCountedFrom t (results_in o)
  results_counted p None e = (0, tt)
  results_counted p (Some i) e =
      let at = ((typed m n f a).inside p i e).1 in
      let all = counted_in defined_in 0 f.blocks p.block.0 at.within (counted m n f a) at.is_block in
      let results = (counted_split all.0 (map arg_value at.within.args) (flat_map results_of (insts_of at.within)) all.1).1 in
      counted_in results_of (all.0 + length (map arg_value at.within.args)) (insts_of at.within) p.index i results at.is_inst

  defined_counted : (i : Item) → (t : ℕ) × AreCountedFrom t (item_defined f i)
  defined_counted Entry = args_counted 0
  defined_counted (Inst p) =
      let r = results_counted p (inst_at f p) refl in
      (r.0, subst (AreCountedFrom r.0) (sym (append-nil (results_in (inst_at f p)))) r.1)
  defined_counted (Edge e) = at (edge_at f e)
    where
      at : (o : Option edge.Edge) → (t : ℕ) × AreCountedFrom t (map arg_value (args_behind f o))
      at None = (0, tt)
      at (Some x) = args_counted x.block.0
  defined_counted (Exit p) = (0, tt)

pub made_somewhere : AreMadeSomewhere
made_somewhere m n f a v lt =
    let point = defined_somewhere v f (counted m n f a) lt in
    somewhere m n f a v point.0 point.1 point.2

pub made_there : AreMadeThere
made_there m n f a v s i made is = (λ c. stops m n f a v s i made (made_by f v i c), makes_there m n f a v s i made is)

pub made_once : AreMadeOnce
made_once m n f a i j v c h = lead_on m n f a v i j (made_by f v i c) (made_by f v j h)

pub parameters_of_entry : AreParametersOfEntry
parameters_of_entry m n f a i v c h = by_entry_alone m n f a v i c (made_by f v i h)

pub distinct : AreDistinct
distinct m n f a i k l v e h = let all = defined_counted m n f a i in stands_once all.0 (item_defined f i) k l v all.1 e h

pub items_of : AreItemsOf
items_of m n f a i = item_is_of m f (typed m n f a) i
