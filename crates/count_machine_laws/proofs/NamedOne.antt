-- One weak or unowned place more or less names an object. An object that is dead is freed where none names it any longer.
use Rattle.std.proofs.Common.{◌≡◌, ◌+◌, ◌-◌, ◌==◌, ◌&&◌, [], Bool, true, false, cond, Option, Some, None, refl, sym, ap, ◌∙◌}
use Rattle.std.specs.Prelude.{option_and_then, option_map}
use Rattle.std.proofs.lemmas.Bool.{and_parts, eqb-true, false≢true, not-false}
use Rattle.count_heap.specs.HeapModel.HeapCalls as heap
use Rattle.count_heap.specs.HeapModel.HeapCalls.{is_left, unless_freed}
use Rattle.count_heap.specs.HeapModel.HeapViews.{HeapObject}
use Rattle.count_machine_model.specs.holder_model.Outcomes.{Numbers}
use Rattle.count_machine_model.specs.holder_model.LoweredRun.Stored.{less_unowned, less_weak, more_unowned, more_weak}
use Rattle.holder_model_values.specs.RunValues.Memory.{Object, is_dead_phase}
use Rattle.holder_model_values.specs.declared.run_values.phase.Phase.{Phase}
use Rattle.holder_model_values.specs.declared.run_values.phase.Phase.TheVariants.{Dead, Deiniting, Live}
use Rattle.sil_ast.specs.declared.module.Module.{Module}
use Rattle.holder_model_values.specs.ValueParts.inner.Suits.{ClassTest}
use Rattle.count_machine_laws.proofs.Objects.{KeptAgrees, ObjectAgrees, freed, kept}

pub dead_alone : (p : Phase) → is_dead_phase p ≡ true → p ≡ Dead
dead_alone Live h = absurd (false≢true h)
dead_alone Deiniting h = absurd (false≢true h)
dead_alone Dead h = refl

module _ (m : Module) (test : ClassTest) where
  -- it is kept, or freed where it is dead and nothing names it
  pub kept_or_freed : (x : Object) (n : Numbers) (h : HeapObject) → (is_left h ≡ true → KeptAgrees m test x n h) → h.phase ≡ x.phase → h.unowned ≡ n.unowned
      → h.weak ≡ n.weak → (is_dead_phase x.phase ≡ true → x.cells ≡ []) → ObjectAgrees m test x n (unless_freed h)
  kept_or_freed x n h keeps phase unowned weak none = at (is_left h) refl
    where
      at : (b : Bool) → is_left h ≡ b → ObjectAgrees m test x n (cond b (Some h) None)
      at true e = kept x n h (keeps e)
      at false e =
          let all = and_parts (is_dead_phase h.phase && h.unowned == 0) (h.weak == 0) (not-false _ e) in
          let both = and_parts (is_dead_phase h.phase) (h.unowned == 0) all.0 in
          let dead : is_dead_phase x.phase ≡ true = ap is_dead_phase (sym phase) ∙ both.0 in
          freed x n (dead_alone x.phase dead) (none dead) (sym unowned ∙ eqb-true h.unowned 0 both.1) (sym weak ∙ eqb-true h.weak 0 all.1)

  left_alive : (h : HeapObject) → is_dead_phase h.phase ≡ false → is_left h ≡ true
  left_alive h alive = rw alive

  -- an object that isn't dead is named

  pub one_more_weak : (x : Object) (n : Numbers) (h : Option HeapObject) → is_dead_phase x.phase ≡ false → ObjectAgrees m test x n h
      → ObjectAgrees m test x (more_weak n) (option_map heap.more_weak h)
  one_more_weak _ _ _ alive (freed x n dead cells unowned weak) = absurd (false≢true (sym alive ∙ ap is_dead_phase dead))
  one_more_weak _ _ _ alive (kept x n h k) = kept x (more_weak n) (heap.more_weak h) (record {
    class = k.class;
    phase = k.phase;
    strong = k.strong;
    unowned = k.unowned;
    weak = ap (λ i. i + 1) k.weak;
    left = left_alive (heap.more_weak h) (ap is_dead_phase k.phase ∙ alive);
    fields = k.fields;
    ended = k.ended;
  })

  pub one_more_unowned : (x : Object) (n : Numbers) (h : Option HeapObject) → is_dead_phase x.phase ≡ false → ObjectAgrees m test x n h
      → ObjectAgrees m test x (more_unowned n) (option_map heap.more_unowned h)
  one_more_unowned _ _ _ alive (freed x n dead cells unowned weak) = absurd (false≢true (sym alive ∙ ap is_dead_phase dead))
  one_more_unowned _ _ _ alive (kept x n h k) = kept x (more_unowned n) (heap.more_unowned h) (record {
    class = k.class;
    phase = k.phase;
    strong = k.strong;
    unowned = ap (λ i. i + 1) k.unowned;
    weak = k.weak;
    left = left_alive (heap.more_unowned h) (ap is_dead_phase k.phase ∙ alive);
    fields = k.fields;
    ended = k.ended;
  })

  -- an object is named no longer

  pub one_less_weak : (x : Object) (n : Numbers) (h : Option HeapObject) → ObjectAgrees m test x n h
      → ObjectAgrees m test x (less_weak n) (option_and_then (λ y. unless_freed (heap.less_weak y)) h)
  one_less_weak _ _ _ (freed x n dead cells unowned weak) = freed x (less_weak n) dead cells unowned (ap (λ i. i - 1) weak)
  one_less_weak _ _ _ (kept x n h k) = kept_or_freed x (less_weak n) (heap.less_weak h) (λ e. record {
    class = k.class;
    phase = k.phase;
    strong = k.strong;
    unowned = k.unowned;
    weak = ap (λ i. i - 1) k.weak;
    left = e;
    fields = k.fields;
    ended = k.ended;
  }) k.phase k.unowned (ap (λ i. i - 1) k.weak) (λ dead. (k.ended dead).0)

  pub one_less_unowned : (x : Object) (n : Numbers) (h : Option HeapObject) → ObjectAgrees m test x n h
      → ObjectAgrees m test x (less_unowned n) (option_and_then (λ y. unless_freed (heap.less_unowned y)) h)
  one_less_unowned _ _ _ (freed x n dead cells unowned weak) = freed x (less_unowned n) dead cells (ap (λ i. i - 1) unowned) weak
  one_less_unowned _ _ _ (kept x n h k) = kept_or_freed x (less_unowned n) (heap.less_unowned h) (λ e. record {
    class = k.class;
    phase = k.phase;
    strong = k.strong;
    unowned = ap (λ i. i - 1) k.unowned;
    weak = k.weak;
    left = e;
    fields = k.fields;
    ended = k.ended;
  }) k.phase (ap (λ i. i - 1) k.unowned) k.weak (λ dead. (k.ended dead).0)
