-- A value that is held at none of some marks, as a switch: it is on while the value is held, and each of those marks needs it off.
use Rattle.std.proofs.Common.{◌≡◌, List, [], ◌∷◌, ◌++◌, refl, sym, ap, ap₂, ◌∙◌, subst, Bool, true, false, cond, Option, Some, None, append_assoc}
use Rattle.std.specs.Prelude.{◌==◌, ◌↔◌, filter_map, option_to_list}
use Rattle.std.specs.List.{cons_option, flat_map}
use Rattle.std.proofs.lemmas.Grind.{flat_map-append}
use Rattle.std.proofs.lemmas.List.{append-nil}
use Rattle.std.proofs.lemmas.List.Elements.{filter_map-append}
use Rattle.sil_ast.specs.declared.function.Function.{Function}
use Rattle.sil_ast.specs.declared.place.ValueId.{ValueId}
use Rattle.sil_cfg.specs.Items.{flow_of}
use Rattle.sil_cfg.specs.declared.item.Item.{Item}
use Rattle.sil_rules.specs.declared.rule.Rule.TheVariants.{ConsumedWhileBorrowed}
use Rattle.reach_engine_marks.proofs.PathPatterns.HeldIsOn.{on_while_held}
use Rattle.reach_engine_marks.specs.PathPatterns.Along.{IsKept}
use Rattle.reach_engine_marks.specs.PathPatterns.Lawful.{AreLawful}
use Rattle.reach_engine_marks.specs.PathPatterns.Marks.{needs_off, turns_off, turns_on}
use Rattle.reach_engine_marks.specs.PathPatterns.Switch.{IsInPlace, IsOn}
use Rattle.reach_engine_marks.specs.PathPatterns.inner.Runs as runs
use Rattle.reach_engine_marks.specs.PathPatterns.inner.Runs.{IsHeld, Sort, TurnAlike}
use Rattle.reach_engine_marks.specs.declared.path_patterns.mark.Mark as pattern
use Rattle.ownership_kinds_chains.specs.declared.ownership_chains.facts.Facts.{Facts}
use Rattle.ownership_kinds_chains.specs.OwnershipMarks.Marks.{marks_of}
use Rattle.ownership_kinds_chains.specs.declared.ownership_marks.mark.Mark.{Mark}
use Rattle.ownership_kinds_chains.specs.declared.ownership_marks.mark.MarkSort.{MarkSort}
use Rattle.ownership_kinds_chains.specs.declared.ownership_marks.mark.MarkSort.TheVariants.{End, Use, Begin}
use Rattle.sil_verifier_trails.specs.borrow_scopes.inner.Runs.{sort_for, sort_of}
use Rattle.copy_pairing_model.specs.Removable.{IsFreeAt, is_mark}

abbrev pub off : pattern.Mark
off = needs_off ConsumedWhileBorrowed

-- the switch must be off, if the mark is one of those
abbrev pub offs : Bool → List pattern.Mark
offs true = off ∷ []
offs false = []

-- a begin of the value turns it on, and an end turns it off
abbrev pub turn : Bool → MarkSort → List pattern.Mark
turn true End = turns_off ConsumedWhileBorrowed ∷ []
turn true Use = []
turn true Begin = turns_on ConsumedWhileBorrowed ∷ []
turn false End = []
turn false Use = []
turn false Begin = []

-- ---- marks that are in place behind others, one after another

abbrev Behind : List pattern.Mark → List pattern.Mark → Type 0
Behind before [] = Unit {0}
Behind before (m ∷ marks) = IsInPlace before m × Behind (before ++ m ∷ []) marks

behind_append : (before marks more : List pattern.Mark) → Behind before marks → Behind (before ++ marks) more → Behind before (marks ++ more)
behind_append before [] more a b = subst (λ v. Behind v more) (append-nil before) b
behind_append before (m ∷ marks) more a b =
    (a.0, behind_append (before ++ m ∷ []) marks more a.1 (subst (λ v. Behind v more) (sym (append_assoc before (m ∷ []) marks)) b))

behind_at : (before front rest : List pattern.Mark) (m : pattern.Mark) → Behind before (front ++ m ∷ rest) → IsInPlace (before ++ front) m
behind_at before [] rest m h = subst (λ v. IsInPlace v m) (sym (append-nil before)) h.0
behind_at before (x ∷ front) rest m h = subst (λ v. IsInPlace v m) (append_assoc before (x ∷ []) front) (behind_at (before ++ x ∷ []) front rest m h.1)

behind_lawful : (marks : List pattern.Mark) → Behind [] marks → AreLawful IsInPlace marks
behind_lawful marks h before rest m e = behind_at [] before rest m (subst (Behind []) e h)

-- ---- one mark

abbrev turns : pattern.Mark → Option Bool
turns m = m.turns

onto : (o : Option Sort) (rest : List Sort) → filter_map runs.turned_by (option_to_list o) ++ filter_map runs.turned_by rest ≡ filter_map runs.turned_by (cons_option o rest)
onto None rest = refl
onto (Some runs.End) rest = refl
onto (Some runs.Use) rest = refl
onto (Some runs.Begin) rest = refl

turn_alike : (own : Bool) (x : MarkSort) → filter_map turns (turn own x) ≡ filter_map runs.turned_by (option_to_list (cond own (Some (sort_of x)) None))
turn_alike true End = refl
turn_alike true Use = refl
turn_alike true Begin = refl
turn_alike false End = refl
turn_alike false Use = refl
turn_alike false Begin = refl

watch_alike : (b own : Bool) (x : MarkSort) → filter_map turns (offs b ++ turn own x) ≡ filter_map runs.turned_by (option_to_list (cond own (Some (sort_of x)) None))
watch_alike true own x = turn_alike own x
watch_alike false own x = turn_alike own x

turn_behind : (before : List pattern.Mark) (own : Bool) (x : MarkSort) → Behind before (turn own x)
turn_behind before true End = (tt, tt)
turn_behind before true Use = tt
turn_behind before true Begin = (tt, tt)
turn_behind before false End = tt
turn_behind before false Use = tt
turn_behind before false Begin = tt

watch_behind : (before : List pattern.Mark) (b own : Bool) (x : MarkSort) → (b ≡ true → IsOn before → ⊥) → Behind before (offs b ++ turn own x)
watch_behind before true own x h = (h refl, turn_behind (before ++ off ∷ []) own x)
watch_behind before false own x h = turn_behind before own x

flat_flat : {A B C : Type 0} (g : B → List C) (h : A → List B) (xs : List A) → flat_map g (flat_map h xs) ≡ flat_map (λ x. flat_map g (h x)) xs
flat_flat g h [] = refl
flat_flat g h (x ∷ xs) = flat_map-append g (h x) (flat_map h xs) ∙ ap (λ ys. flat_map g (h x) ++ ys) (flat_flat g h xs)

module _ (sort : MarkSort) (values : List ValueId) (h : ValueId) where
  abbrev pub watch : Mark → List pattern.Mark
  watch m = offs (is_mark sort values m) ++ turn (m.subject.0 == h.0) m.sort

  abbrev along : List Mark → List pattern.Mark
  along ms = flat_map watch ms

  alike : (ms : List Mark) → TurnAlike (along ms) (filter_map (sort_for h) ms)
  alike [] = refl
  alike (m ∷ ms) =
      filter_map-append turns (watch m) (along ms)
      ∙ ap₂ (λ x y. x ++ y) (watch_alike (is_mark sort values m) (m.subject.0 == h.0) m.sort) (alike ms)
      ∙ onto (sort_for h m) (filter_map (sort_for h) ms)

  on_held : (ms : List Mark) → IsOn (along ms) ↔ IsHeld (filter_map (sort_for h) ms)
  on_held ms = on_while_held (along ms) (filter_map (sort_for h) ms) (alike ms)

  abbrev Spares : List Mark → Mark → Type 0
  Spares before m = is_mark sort values m ≡ true → IsHeld (filter_map (sort_for h) before) → ⊥

  pushed : (before : List Mark) (m : Mark) → along (before ++ m ∷ []) ≡ along before ++ watch m
  pushed before m = flat_map-append watch before (m ∷ []) ∙ ap (λ v. along before ++ v) (append-nil (watch m))

  all_behind : (before ms : List Mark) → ((front rest : List Mark) (m : Mark) → ms ≡ front ++ m ∷ rest → Spares (before ++ front) m) → Behind (along before) (along ms)
  all_behind before [] all = tt
  all_behind before (m ∷ ms) all =
      let own : Spares before m = subst (λ v. Spares v m) (append-nil before) (all [] ms m refl) in
      behind_append (along before) (watch m) (along ms)
      (watch_behind (along before) (is_mark sort values m) (m.subject.0 == h.0) m.sort (λ e on. own e ((on_held before).0 on)))
      (subst (λ v. Behind v (along ms)) (pushed before m)
      (all_behind (before ++ m ∷ []) ms (λ front rest x e. subst (λ v. Spares v x) (sym (append_assoc before (m ∷ []) front)) (all (m ∷ front) rest x (ap (λ v. m ∷ v) e)))))

  spared_lawful : (ms : List Mark) → AreLawful Spares ms → AreLawful IsInPlace (along ms)
  spared_lawful ms spared = behind_lawful (along ms) (all_behind [] ms (λ front rest m e. spared front rest m e))

  lawful_spared : (ms : List Mark) → AreLawful IsInPlace (along ms) → AreLawful Spares ms
  lawful_spared ms lawful before rest m e is here =
      let own : watch m ≡ off ∷ turn (m.subject.0 == h.0) m.sort = ap (λ b. offs b ++ turn (m.subject.0 == h.0) m.sort) is in
      let whole : along ms ≡ along before ++ off ∷ (turn (m.subject.0 == h.0) m.sort ++ along rest) =
      ap along e ∙ flat_map-append watch before (m ∷ rest) ∙ ap (λ v. along before ++ (v ++ along rest)) own in
      lawful (along before) (turn (m.subject.0 == h.0) m.sort ++ along rest) off whole ((on_held before).1 here)

  module _ (facts : ValueId → Option Facts) (f : Function) where
    -- what an item does to the switch
    abbrev pub watched : Item → List pattern.Mark
    watched item = flat_map watch (marks_of facts f item)

    pub free_kept : IsFreeAt facts f sort values h → IsKept (flow_of f) watched IsInPlace
    free_kept free w trail is = subst (AreLawful IsInPlace) (flat_flat watch (marks_of facts f) trail) (spared_lawful (flat_map (marks_of facts f) trail) (free w trail is))

    pub kept_free : IsKept (flow_of f) watched IsInPlace → IsFreeAt facts f sort values h
    kept_free kept w trail is =
        lawful_spared (flat_map (marks_of facts f) trail) (subst (AreLawful IsInPlace) (sym (flat_flat watch (marks_of facts f) trail)) (kept w trail is))
