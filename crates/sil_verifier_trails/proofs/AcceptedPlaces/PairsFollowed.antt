-- No walk shows two slots out of order, so the automaton of two slots is followed along each trail.
use Rattle.std.proofs.Common.{◌≡◌, ◌≢◌, ◌⊎◌, inl, inr, ℕ, zero, suc, ◌<◌, List, [], ◌∷◌, ◌++◌, reverse, refl, ap, ◌∙◌, subst, arith, Bool, true, false, Some, None}
use Rattle.std.specs.Prelude.{◌==◌, ⊤, cond, filter_map, flat_map}
use Rattle.std.specs.List.{cons_option}
use Rattle.std.proofs.lemmas.Bool.{cases_eq}
use Rattle.std.proofs.lemmas.Grind.{flat_map-append}
use Rattle.std.proofs.lemmas.List.{append-nil, reverse-append}
use Rattle.sil_verifier_trails.specs.AcceptedTrails.inner.Accepted.{IsAcceptedIn}
use Rattle.sil_verifier_values.specs.memory_rules_accesses.Sources.{is_slot, sources_of}
use Rattle.sil_verifier_values.specs.memory_rules_accesses.declared.access.Access.{Access}
use Rattle.sil_verifier_values.specs.memory_rules_accesses.declared.access.Access.TheVariants.{Allocates, Begins, Deallocates, Does, Ends, Given, Mentions}
use Rattle.sil_verifier_values.specs.memory_rules.Broken.{crossing}
use Rattle.sil_verifier_values.specs.memory_rules_slots.Marks.{pair_mark}
use Rattle.sil_verifier_values.specs.memory_rules_slots.Order.{IsAfter, IsOrdered, code_of}
use Rattle.sil_verifier_values.specs.memory_rules_slots.Pairs.{ShowsPair, pair_marks}
use Rattle.sil_verifier_values.specs.memory_rules_slots.declared.mark.SlotMark.{SlotMark}
use Rattle.sil_verifier_values.specs.memory_rules_slots.declared.mark.SlotMark.TheVariants.{FirstIn, FirstOut, SecondIn, SecondOut}
use Rattle.sil_verifier_values.specs.memory_rules_slots.inner.Automaton.{order_step}
use Rattle.sil_verifier_values.specs.ownership_kinds_origins.Facts.{facts_in}
use Rattle.sil_verifier_trails.specs.RunTrails.inner.RunTrails.{IsRunTrail}
use Rattle.sil_verifier_values.specs.sil_verifier_accepted.AcceptedModules.Shown.{memory}
use Rattle.sil_verifier_trails.specs.AcceptedMemory.inner.PartTrails.{accesses_in}
use Rattle.sil_verifier_trails.proofs.AcceptedTrails.Tests.{each_of_both}
use Rattle.sil_verifier_trails.proofs.RunTrails.RunPaths.{are_trails}
use Rattle.sil_verifier_values.proofs.memory_rules_slots.OrderDecided.{order_decides}
use Rattle.numbered_form.specs.Lists.{Each}
use Rattle.sil_verifier_values.specs.ownership_kinds_chains.OwnershipChains.Facts.{value_of}
use Rattle.sil_verifier_values.specs.reach_engine_marks.PathPatterns.Along.{Shows}
use Rattle.sil_verifier_values.specs.reach_engine_marks.PathPatterns.Lawful.{FirstBreak}
use Rattle.sil_verifier_values.proofs.reach_engine_marks.PathPatterns.PatternsDecided.{break_sound}
use Rattle.reach_engine.specs.declared.scan.Step.{Step}
use Rattle.reach_engine.specs.declared.scan.Step.TheVariants.{Bad, Go}
use Rattle.reach_engine.specs.inner.Run.{run}
use Rattle.reach_engine.proofs.Runs.{run_join}
use Rattle.sil_ast.specs.declared.function.Function.{Function}
use Rattle.sil_ast.specs.declared.place.EdgeId.{EdgeId}
use Rattle.sil_ast.specs.declared.place.ValueId.{ValueId}
use Rattle.sil_cfg.specs.Flow.{point_of}
use Rattle.sil_cfg.specs.Items.{flow_of}
use Rattle.sil_cfg.specs.declared.item.Item.{Item}
use Rattle.sil_rules.specs.declared.rule.Rule.TheVariants as rule
use Rattle.sil_verifier_values.specs.sil_types_declarations.TypeDefinitions.Declarations.{Declarations}

-- ---- a slot is in no order with itself

abbrev IsOfFirst : SlotMark → Type 0
IsOfFirst FirstIn = ⊤
IsOfFirst FirstOut = ⊤
IsOfFirst SecondIn = ⊥
IsOfFirst SecondOut = ⊥

let_in : (b : Bool) (rest : List SlotMark) → Each IsOfFirst rest → Each IsOfFirst (cons_option (cond b (Some FirstIn) (cond b (Some SecondIn) None)) rest)
let_in true rest h = (tt, h)
let_in false rest h = h

let_out : (b : Bool) (rest : List SlotMark) → Each IsOfFirst rest → Each IsOfFirst (cons_option (cond b (Some FirstOut) (cond b (Some SecondOut) None)) rest)
let_out true rest h = (tt, h)
let_out false rest h = h

middle : (xs ys : List SlotMark) (m : SlotMark) → Each IsOfFirst (xs ++ m ∷ ys) → IsOfFirst m
middle [] ys m h = h.0
middle (x ∷ xs) ys m h = middle xs ys m h.1

front_of : (xs ys : List SlotMark) → Each IsOfFirst (xs ++ ys) → Each IsOfFirst xs
front_of [] ys h = tt
front_of (x ∷ xs) ys h = (h.0, front_of xs ys h.1)

module _ (a : ValueId) where
  of_first : (accesses : List Access) → Each IsOfFirst (filter_map (pair_mark a a) accesses)
  of_first [] = tt
  of_first (Ends v ∷ accesses) = of_first accesses
  of_first (Begins v ∷ accesses) = of_first accesses
  of_first (Allocates v ∷ accesses) = let_in (v.0 == a.0) (filter_map (pair_mark a a) accesses) (of_first accesses)
  of_first (Deallocates v ∷ accesses) = let_out (v.0 == a.0) (filter_map (pair_mark a a) accesses) (of_first accesses)
  of_first (Given v content ∷ accesses) = of_first accesses
  of_first (Does x ∷ accesses) = of_first accesses
  of_first (Mentions v m ∷ accesses) = of_first accesses

  module _ (accesses : Item → List Access) where
    abbrev own_marks : Item → List SlotMark
    own_marks i = filter_map (pair_mark a a) (accesses i)

    of_items : (items : List Item) → Each IsOfFirst (flat_map own_marks items)
    of_items [] = tt
    of_items (i ∷ items) = each_of_both IsOfFirst (own_marks i) (flat_map own_marks items) (of_first (accesses i)) (of_items items)

    never_broken : (items : List Item) (i : Item) (code : ℕ) → FirstBreak IsOrdered code_of (flat_map own_marks items) (own_marks i) code → ⊥
    never_broken items i code b = by b.mark b.out_of_place
      where
        all : Each IsOfFirst (flat_map own_marks items ++ b.front)
        all = each_of_both IsOfFirst (flat_map own_marks items) b.front (of_items items)
            (front_of b.front (b.mark ∷ b.rest) (subst (Each IsOfFirst) b.parts (of_first (accesses i))))

        by : (m : SlotMark) → (IsOrdered (flat_map own_marks items ++ b.front) m → ⊥) → ⊥
        by FirstIn out = out tt
        by FirstOut out = out (λ (h : IsAfter (flat_map own_marks items ++ b.front)). middle h.before h.since SecondIn (subst (Each IsOfFirst) h.parts all))
        by SecondIn out = out tt
        by SecondOut out = out tt

-- ---- and no slot is out of order with another one

module _ (d : Declarations) (f : Function) (accepted : IsAcceptedIn d f) (a : ValueId) (slot : is_slot (sources_of d f) a ≡ true) where
  abbrev Shown : ValueId → List EdgeId → Item → Type 0
  Shown b w item = ShowsPair (sources_of d f) (facts_in d f) f a b w item

  -- the least other slot would be a crossing
  pair_unshown : (n : ℕ) (b : ValueId) → b.0 < n → is_slot (sources_of d f) b ≡ true → (w : List EdgeId) (item : Item) → Shown b w item → ⊥
  pair_unshown zero b lt is w item h = absurd (omega arith)
  pair_unshown (suc n) b lt is w item h = at (cases_eq b.0 a.0) (λ x less also. pair_unshown n x (omega arith) also w item)
    where
      at : (b.0 ≡ a.0) ⊎ (b.0 ≢ a.0) → ((x : ValueId) → x.0 < b.0 → is_slot (sources_of d f) x ≡ true → Shown x w item → ⊥) → ⊥
      at (inl e) before =
          let shown : Shown a w item = subst (λ x. Shown x w item) (ap value_of e) h in
          never_broken a (accesses_in d f) shown.before item _ shown.breaks
      at (inr differ) before =
          accepted.clean (record { rule = rule.StackOrder; subject = a; other = Some b; point = point_of (flow_of f) item; walk = w })
          (memory (crossing b refl refl (record { is_first = slot; is_other = is; different = differ; item = item; point = refl; shows = h; least = before })))

  module _ (b : ValueId) (other : is_slot (sources_of d f) b ≡ true) where
    abbrev pub marks : Item → List SlotMark
    marks = pair_marks (sources_of d f) (facts_in d f) f a b

    -- the marks of a trail, the oldest first
    abbrev pub along : List Item → List SlotMark
    along t = flat_map marks (reverse t)

    pub along_next : (i : Item) (t : List Item) → along (i ∷ t) ≡ along t ++ marks i
    along_next i t =
        ap (flat_map marks) (reverse-append (i ∷ []) t) ∙ flat_map-append marks (reverse t) (i ∷ [])
        ∙ ap (λ v. along t ++ v) (append-nil (marks i))

    unshown : (w : List EdgeId) (code : ℕ) (item : Item) → Shows (flow_of f) marks IsOrdered code_of w code item → ⊥
    unshown w code item h =
        let s = h.breaks in
        pair_unshown (suc b.0) b (omega arith) other w item (record {
          before = h.before;
          trail = h.trail;
          breaks = subst (FirstBreak IsOrdered code_of (flat_map marks h.before) (marks item)) s.code_is s;
        })

    pub pair_followed : (t : List Item) → IsRunTrail f t → (s : ℕ) × (run order_step (Go 0) (along t) ≡ Go s)
    pair_followed [] h = (0, refl)
    pair_followed (i ∷ t) h = by (pair_followed t h.1)
      where
        by : (s : ℕ) × (run order_step (Go 0) (along t) ≡ Go s) → (s : ℕ) × (run order_step (Go 0) (along (i ∷ t)) ≡ Go s)
        by was = to (run order_step (Go was.0) (marks i)) refl
          where
            joined : run order_step (Go 0) (along (i ∷ t)) ≡ run order_step (Go was.0) (marks i)
            joined = ap (run order_step (Go 0)) (along_next i t) ∙ run_join order_step (Go 0) (along t) (marks i) was.0 (run order_step (Go was.0) (marks i)) was.1 refl

            to : (x : Step) → run order_step (Go was.0) (marks i) ≡ x → (s : ℕ) × (run order_step (Go 0) (along (i ∷ t)) ≡ Go s)
            to (Go s) e = (s, joined ∙ e)
            to (Bad c) e =
                let trail = are_trails f accepted.once (i ∷ t) h in
                absurd (unshown trail.0 c i (record {
                  before = reverse t;
                  trail = trail.1;
                  breaks = break_sound order_step IsOrdered code_of order_decides (along t) (marks i) was.0 c was.1 e;
                }))
