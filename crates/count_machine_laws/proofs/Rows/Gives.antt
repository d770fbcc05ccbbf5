-- An instruction that gives one value, and what it reads.
use Rattle.std.proofs.Common.{◌≡◌, ◌∙◌, List, [], ◌∷◌, Some, map, refl, sym, ap, subst, true}
use Rattle.count_machine_model.specs.holder_model.Data.{AddressOf, Datum, FunctionOf}
use Rattle.count_machine_model.specs.holder_model.Effects as effects
use Rattle.sil_cfg_items.specs.Parts.{inst_at}
use Rattle.count_machine_model.specs.holder_model.LoweredRun.LowStepParts.{fails, numbers_for}
use Rattle.count_machine_model.specs.holder_model.declared.lowered_run.low_fault.LowFault.{LowFault}
use Rattle.count_machine_model.specs.declared.machine_steps.address.Address.{Address}
use Rattle.count_machine_model.specs.MachineSteps.Operands.{faults, gives, gives_address, go_on, put_there}
use Rattle.count_machine_model.specs.declared.machine_steps.frame.Frame.{Frame}
use Rattle.count_machine_model.specs.declared.machine_steps.run_end.RunEnd.TheVariants as end
use Rattle.count_machine_model.specs.MachineSteps.Views.{MachineView}
use Rattle.numbered_form.specs.Lists.{Each}
use Rattle.count_machine_model.specs.holder_model.Outcomes.{Numbers}
use Rattle.count_machine_model.specs.holder_model.States.{Faulted}
use Rattle.count_machine_model.specs.ReadyCode.Layout.{local, local_address}
use Rattle.count_machine_model.specs.holder_model.RunTyping.CallForms.{IsOf}
use Rattle.count_machine_model.specs.holder_model.RunTyping.Forms.{OfFunction, OfPlace, OfValue, form_of}
use Rattle.holder_model_values.specs.RunValues.Leaves.{leaves_of}
use Rattle.holder_model_values.specs.RunValues.Memory.{Memory}
use Rattle.holder_model_values.specs.RunValues.Places.{Place}
use Rattle.holder_model_values.specs.RunValues.Shapes.{Shape}
use Rattle.holder_model_values.specs.RunValues.Values.{Value}
use Rattle.holder_model_values.specs.declared.run_values.leaf.Leaf.{Leaf}
use Rattle.sil_ast.specs.declared.function.Function.{Function}
use Rattle.sil_ast.specs.declared.module.Module.{Module}
use Rattle.sil_ast.specs.declared.place.FuncId.{FuncId}
use Rattle.sil_ast.specs.declared.place.ValueId.{ValueId}
use Rattle.holder_model_values.specs.ValueParts.inner.Suits.{suits}
use Rattle.count_machine_laws.specs.inner.Told.{fault}
use Rattle.count_machine_laws.proofs.Ending.{Alike, ends_alike_with}
use Rattle.count_machine_laws.proofs.LastStrongs.{SameStrongs}
use Rattle.count_machine_laws.proofs.Memories.{NamesPlace}
use Rattle.count_machine_laws.proofs.Numbers.{numbers_stay}
use Rattle.count_machine_laws.proofs.Objects.{is_of_class}
use Rattle.count_machine_laws.proofs.Operands.{AllRead, IsRead, more, none}
use Rattle.count_machine_laws.proofs.Rows.Effects.{Runs, d, performed}
use Rattle.count_machine_laws.proofs.Rows.Makes.{address_given, function_given, nothing_given, value_given}
use Rattle.count_machine_laws.proofs.Slots.{Made}
use Rattle.count_machine_laws.proofs.Tasks.{Beginning}

-- lists with one form

pub same_head : {A : Type 0} (x y : A) (xs ys : List A) → x ∷ xs ≡ y ∷ ys → x ≡ y
same_head x y xs ys e = cc

pub same_tail : {A : Type 0} (x y : A) (xs ys : List A) → x ∷ xs ≡ y ∷ ys → xs ≡ ys
same_tail x y xs ys e = cc

pub no_values : {A B : Type 0} (g : A → B) (vs : List A) → map g vs ≡ [] → [] ≡ vs
no_values g [] e = refl
no_values g (v ∷ vs) e = absurd (cc)

pub first_form : {A B : Type 0} (g : A → B) (vs : List A) (v : A) (vs' : List A) (x : B) (xs : List B) → vs ≡ v ∷ vs' → map g vs ≡ x ∷ xs → g v ≡ x
first_form g vs v vs' x xs e is = same_head (g v) x (map g vs') xs (sym (ap (map g) e) ∙ is)

pub other_forms : {A B : Type 0} (g : A → B) (vs : List A) (v : A) (vs' : List A) (x : B) (xs : List B) → vs ≡ v ∷ vs' → map g vs ≡ x ∷ xs → map g vs' ≡ xs
other_forms g vs v vs' x xs e is = same_tail (g v) x (map g vs') xs (sym (ap (map g) e) ∙ is)

-- a function's one result is a value of it
pub one_of : (f : Function) (vs : List ValueId) (v : ValueId) (vs' : List ValueId) → vs ≡ v ∷ vs' → Each (IsOf f) vs → IsOf f v
one_of f vs v vs' e each = (subst (Each (IsOf f)) e each).0

-- what one operand is

module _ {m : Module} {made : List Made} {mem : Memory} {st : MachineView} {f : Function} {mf : Frame} where
  first_read : (v : ValueId) (vs : List ValueId) (xs : List Datum) → AllRead m made mem st f mf (v ∷ vs) xs
      → (x : Datum) × (xs' : List Datum) × (xs ≡ x ∷ xs') × IsRead m made mem st f mf v x × AllRead m made mem st f mf vs xs'
  first_read v vs _ (more _ x _ xs is all) = (x, xs, refl, is, all)

  no_more : (xs : List Datum) → AllRead m made mem st f mf [] xs → xs ≡ []
  no_more _ none = refl

  pub none_read : (xs : List Datum) {ws : List ValueId} → ws ≡ [] → AllRead m made mem st f mf ws xs → xs ≡ []
  none_read xs e all = no_more xs (subst (λ vs. AllRead m made mem st f mf vs xs) e all)

  pub one_read : (v : ValueId) (xs : List Datum) {ws : List ValueId} → ws ≡ v ∷ [] → AllRead m made mem st f mf ws xs
      → (x : Datum) × (xs ≡ x ∷ []) × IsRead m made mem st f mf v x
  one_read v xs e all =
      let first = first_read v [] xs (subst (λ vs. AllRead m made mem st f mf vs xs) e all) in
      (first.0, first.2 ∙ ap (λ ys. first.0 ∷ ys) (no_more first.1 first.4), first.3)

  pub two_read : (v w : ValueId) (xs : List Datum) {ws : List ValueId} → ws ≡ v ∷ w ∷ [] → AllRead m made mem st f mf ws xs
      → (x : Datum) × (y : Datum) × (xs ≡ x ∷ y ∷ []) × IsRead m made mem st f mf v x × IsRead m made mem st f mf w y
  two_read v w xs e all =
      let first = first_read v (w ∷ []) xs (subst (λ vs. AllRead m made mem st f mf vs xs) e all) in
      let second = one_read w first.1 refl first.4 in
      (first.0, second.0, first.2 ∙ ap (λ ys. first.0 ∷ ys) second.1, first.3, second.2)

-- what the instruction gives, in a memory that stays

module _ {m : Module} {entry : Beginning} (r : Runs m entry) where
  pub same_numbers : numbers_for r.s.memory r.s.numbers ≡ r.s.numbers
  same_numbers = numbers_stay m (is_of_class m r.s.memory) r.s.memory r.s.numbers r.st.heap r.running.parts.memory.objects

  -- a fault of both, whatever storage has come to name in the run
  pub faults_alike : (numbers : List Numbers) → SameStrongs numbers r.s.numbers → (x : LowFault) → Alike m entry (fails (record r.s { numbers = numbers }) x) (faults x r.st)
  faults_alike numbers same x = ends_alike_with r.running.parts numbers same (Faulted x) (end.Fault x) (fault x) refl

  module _ (there : inst_at r.f r.lf.at ≡ Some r.i) where
    pub gives_nothing : r.i.results ≡ [] → Alike m entry (performed r r.s (effects.gives r.s.memory [])) (go_on r.st r.mf r.rest')
    gives_nothing results = nothing_given m entry r.bound r.f r.lf r.mf r.below r.rest r.rest' r.i there r.s same_numbers r.running results

    module _ (v : ValueId) (results : r.i.results ≡ v ∷ []) (is_of : IsOf r.f v) where
      pub gives_value : (t : Shape) → form_of (d r) r.f v ≡ OfValue t → (x : Value) → suits (is_of_class m r.s.memory) t x ≡ true → (ls : List Leaf) → ls ≡ leaves_of t x
          → Alike m entry (performed r r.s (effects.gives_value r.s.memory x)) (gives r.st r.mf r.rest' (local (d r) r.f v) ls)
      gives_value t form x fits ls is =
          value_given m entry r.bound r.f r.lf r.mf r.below r.rest r.rest' r.i there r.s same_numbers r.running v results is_of t form x fits ls is

      pub gives_place : (p : Place) → form_of (d r) r.f v ≡ OfPlace p.shape → (a : Address) → NamesPlace m r.made r.st.slots r.s.memory a p
          → Alike m entry (performed r r.s (effects.gives r.s.memory (AddressOf p ∷ []))) (gives_address r.st r.mf r.rest' (local_address (d r) r.f v) a)
      gives_place p form a names =
          address_given m entry r.bound r.f r.lf r.mf r.below r.rest r.rest' r.i there r.s same_numbers r.running v results is_of p form a names

      pub gives_function : (g : FuncId) → form_of (d r) r.f v ≡ OfFunction g
          → Alike m entry (performed r r.s (effects.gives r.s.memory (FunctionOf g ∷ []))) (go_on (put_there r.st r.mf v) r.mf r.rest')
      gives_function g form =
          function_given m entry r.bound r.f r.lf r.mf r.below r.rest r.rest' r.i there r.s same_numbers r.running v results is_of g form
