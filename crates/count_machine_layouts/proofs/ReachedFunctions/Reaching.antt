-- The functions that a run can come to are found: what is marked waits, or what it names is marked.
use Rattle.std.proofs.Common.{◌≡◌, ℕ, zero, suc, ◌+◌, ◌<◌, ◌≤◌, List, [], ◌∷◌, ◌++◌, length, get_or, set, take, replicate, refl, sym, ap, ◌∙◌, subst, arith}
use Rattle.std.proofs.Common.{Bool, true, false, not, cond, ◌⊎◌, inl, inr, Some, None}
use Rattle.std.specs.Prelude.{All, Contains, count_by, slice_get}
use Rattle.std.proofs.lemmas.List.{length-set, length_push, take_all}
use Rattle.std.proofs.lemmas.List.Elements.{All-more, All-weaker, Contains-append_left, Contains-push, Contains-push_cases}
use Rattle.std.proofs.lemmas.List.Sums.{sum_by-set}
use Rattle.std.proofs.lemmas.Option.{slice_get-get_or}
use Rattle.sil_ast.specs.declared.function.Function.{Function}
use Rattle.sil_ast.specs.declared.module.Module.{Module}
use Rattle.sil_ast.specs.declared.place.FuncId.{FuncId}
use Rattle.sil_types.specs.Typing.Values.{value_functions}
use Rattle.count_machine_model.specs.ReadyCode.ReadyModules.{Reaches}
use Rattle.count_machine_model.specs.declared.ready_code.function.ReadyClass.{ReadyClass}
use Rattle.count_machine_layouts.specs.ReachedFunctions.inner.Reaching.{AreFollowed, AreFollowedBut, AreFound, HaveDeinitsMarked, Follows, IsFollowed, Searches}
use Rattle.count_machine_layouts.specs.ReachedFunctions.inner.Reaching.{GoesOn, HoldsOfDeinits, HoldsOfNamed, MarksTo}

-- marking

set_same : (reached : List Bool) (i : ℕ) → i < length reached → slice_get (set reached i true) i ≡ Some true
set_same [] i lt = absurd (omega arith)
set_same (r ∷ reached) zero lt = refl
set_same (r ∷ reached) (suc i) lt = set_same reached i (omega arith)

set_keeps : (reached : List Bool) (i k : ℕ) → slice_get reached k ≡ Some true → slice_get (set reached i true) k ≡ Some true
set_keeps [] i k at = absurd (cc)
set_keeps (r ∷ reached) zero zero at = refl
set_keeps (r ∷ reached) zero (suc k) at = at
set_keeps (r ∷ reached) (suc i) zero at = at
set_keeps (r ∷ reached) (suc i) (suc k) at = set_keeps reached i k at

set_only : (reached : List Bool) (i k : ℕ) → slice_get (set reached i true) k ≡ Some true → (slice_get reached k ≡ Some true) ⊎ (k ≡ i)
set_only [] i k at = absurd (cc)
set_only (r ∷ reached) zero zero at = inr refl
set_only (r ∷ reached) zero (suc k) at = inl at
set_only (r ∷ reached) (suc i) zero at = inl at
set_only (r ∷ reached) (suc i) (suc k) at = further (set_only reached i k at)
  where
    further : (slice_get reached k ≡ Some true) ⊎ (k ≡ i) → (slice_get reached k ≡ Some true) ⊎ (suc k ≡ suc i)
    further (inl at) = inl at
    further (inr e) = inr (ap suc e)

count_set : (reached : List Bool) (i : ℕ) → i < length reached → get_or reached i false ≡ false → suc (count_by not (set reached i true)) ≡ count_by not reached
count_set reached i lt off =
    let e : count_by not (set reached i true) + cond {A = ℕ} (not (get_or reached i false)) 1 0 ≡ count_by not reached + 0 =
    sum_by-set (λ x. cond (not x) 1 0) reached i true false lt in
    let one : cond {A = ℕ} (not (get_or reached i false)) 1 0 ≡ 1 = ap (λ b. cond {A = ℕ} (not b) 1 0) off in
    omega arith

module _ (reached : List Bool) (waiting : List FuncId) where
  pub goes_nowhere : GoesOn reached waiting reached waiting
  goes_nowhere = record { size = refl; kept = λ g h. h; waits = λ g h. h; new = λ g h. inl h; room = refl }

  pub goes_further : (r s : List Bool) (v w : List FuncId) → GoesOn reached waiting r v → GoesOn r v s w → GoesOn reached waiting s w
  goes_further r s v w first then = record {
    size = then.size ∙ first.size;
    kept = λ g h. then.kept g (first.kept g h);
    waits = λ g h. then.waits g (first.waits g h);
    new = λ g h. known g (then.new g h);
    room = then.room ∙ first.room;
  }
    where
      old : (g : FuncId) → Reaches reached g ⊎ Contains v g → Reaches reached g ⊎ Contains w g
      old g (inl h) = inl h
      old g (inr c) = inr (then.waits g c)

      known : (g : FuncId) → Reaches r g ⊎ Contains w g → Reaches reached g ⊎ Contains w g
      known g (inl h) = old g (first.new g h)
      known g (inr c) = inr c

  pub marked_new : (function : FuncId) → function.0 < length reached → get_or reached function.0 false ≡ false
      → GoesOn reached waiting (set reached function.0 true) (waiting ++ function ∷ [])
  marked_new function lt off = record {
    size = length-set reached function.0 true;
    kept = λ g h. set_keeps reached function.0 g.0 h;
    waits = λ g c. Contains-append_left waiting (function ∷ []) g c;
    new = λ g h. known g (set_only reached function.0 g.0 h);
    room = (let fewer : suc (count_by not (set reached function.0 true)) ≡ count_by not reached = count_set reached function.0 lt off in
        let longer : length (waiting ++ function ∷ []) ≡ length waiting + 1 = length_push waiting function in omega arith);
  }
    where
      known : (g : FuncId) → Reaches reached g ⊎ (g.0 ≡ function.0) → Reaches reached g ⊎ Contains (waiting ++ function ∷ []) g
      known g (inl h) = inl h
      known g (inr e) =
          let same : function ≡ g = ap (λ (n : ℕ). record { 0 = n }) (sym e) in
          inr (subst (Contains (waiting ++ function ∷ [])) same (Contains-push waiting function))

  pub marked_now : (function : FuncId) → function.0 < length reached → Reaches (set reached function.0 true) function
  marked_now function lt = set_same reached function.0 lt

  pub marked_before : (function : FuncId) (d : Bool) → function.0 < length reached → get_or reached function.0 d ≡ true → Reaches reached function
  marked_before function d lt on = slice_get-get_or reached function.0 d lt ∙ ap Some on

-- loops that mark

-- what stays where more is marked
abbrev Stays : {A : Type 0} → (List Bool → A → Type 0) → Type 0
Stays {A} Has = (r s : List Bool) → ((g : FuncId) → Reaches r g → Reaches s g) → (x : A) → Has r x → Has s x

pub reaches_stays : Stays Reaches
reaches_stays r s kept g h = kept g h

pub named_stays : Stays (λ r. HoldsOfNamed (Reaches r))
named_stays r s kept None h = tt
named_stays r s kept (Some g) h = kept g h

pub deinits_stay : Stays (λ r. HoldsOfDeinits (Reaches r))
deinits_stay r s kept class h = All-weaker (Reaches r) (Reaches s) kept class.deinits h

module _ {A : Type 0} (Has : List Bool → A → Type 0) (xs : List A) (reached : List Bool) (waiting : List FuncId) where
  pub marks_more : Stays Has → (n : ℕ) (d : A) (r s : List Bool) (v w : List FuncId) → n < length xs
      → MarksTo Has xs n reached waiting r v → GoesOn r v s w → Has s (get_or xs n d) → MarksTo Has xs (n + 1) reached waiting s w
  marks_more stays n d r s v w lt so_far goes here = record {
    goes = goes_further reached waiting r s v w so_far.goes goes;
    marked = All-more (Has s) xs n d lt (All-weaker (Has r) (Has s) (stays r s goes.kept) (take n xs) so_far.marked) here;
  }

  pub marks_same : (n : ℕ) (r s : List Bool) (v w : List FuncId) → r ≡ s → v ≡ w → MarksTo Has xs n reached waiting s w → MarksTo Has xs n reached waiting r v
  marks_same n r s v w a b h = subst (λ x. MarksTo Has xs n reached waiting x v) (sym a) (subst (MarksTo Has xs n reached waiting s) (sym b) h)

  pub all_marked : (n : ℕ) (r : List Bool) (v : List FuncId) → length xs ≤ n → MarksTo Has xs n reached waiting r v → All (Has r) xs
  all_marked n r v le so_far = subst (All (Has r)) (take_all n xs le) so_far.marked

-- the search

module _ (m : Module) where
  stays_followed : (r s : List Bool) → ((g : FuncId) → Reaches r g → Reaches s g) → (f : Function) → IsFollowed r f → IsFollowed s f
  stays_followed r s kept f h = All-weaker (HoldsOfNamed (Reaches r)) (HoldsOfNamed (Reaches s)) (named_stays r s kept) (value_functions f) h

  pub none_followed : (r : List Bool) (w : List FuncId) → ((g : FuncId) → Reaches r g → ⊥) → AreFollowedBut m r w
  none_followed r w none g f h at = absurd (none g h)

  module _ (r s : List Bool) (v w : List FuncId) where
    -- more was marked
    pub followed_still : AreFollowedBut m r v → GoesOn r v s w → AreFollowedBut m s w
    followed_still but goes g f h at = by (goes.new g h)
      where
        old : Contains v g ⊎ IsFollowed r f → Contains w g ⊎ IsFollowed s f
        old (inl c) = inl (goes.waits g c)
        old (inr followed) = inr (stays_followed r s goes.kept f followed)

        by : Reaches r g ⊎ Contains w g → Contains w g ⊎ IsFollowed s f
        by (inl before) = old (but g f before at)
        by (inr c) = inl c

    -- the last that waited was followed
    pub followed_more : (waiting : List FuncId) (top : FuncId) → waiting ≡ v ++ top ∷ [] → AreFollowedBut m r waiting
        → Follows m top r v s w → AreFollowedBut m s w
    followed_more waiting top is but follows g f h at = by (follows.goes.new g h)
      where
        place : Contains v g ⊎ (top ≡ g) → Contains w g ⊎ IsFollowed s f
        place (inl c) = inl (follows.goes.waits g c)
        place (inr e) = inr (follows.followed f (subst (λ (x : FuncId). slice_get m.functions x.0 ≡ Some f) (sym e) at))

        old : Contains waiting g ⊎ IsFollowed r f → Contains w g ⊎ IsFollowed s f
        old (inl c) = place (Contains-push_cases v top g (subst (λ xs. Contains xs g) is c))
        old (inr followed) = inr (stays_followed r s follows.goes.kept f followed)

        by : Reaches r g ⊎ Contains w g → Contains w g ⊎ IsFollowed s f
        by (inl before) = old (but g f before at)
        by (inr c) = inl c

  module _ (first : List Bool) where
    pub searches_begun : (waiting : List FuncId) → AreFollowedBut m first waiting → Searches m first first waiting
    searches_begun waiting but = record { size = refl; kept = λ g h. h; but = but }

    pub searches_more : (r s : List Bool) (v w waiting : List FuncId) (top : FuncId) → waiting ≡ v ++ top ∷ [] → Searches m first r waiting
        → Follows m top r v s w → Searches m first s w
    searches_more r s v w waiting top is so_far follows = record {
      size = follows.goes.size ∙ so_far.size;
      kept = λ g h. follows.goes.kept g (so_far.kept g h);
      but = followed_more r s v w waiting top is so_far.but follows;
    }

    pub searches_over : (r : List Bool) (w : List FuncId) → length w ≡ 0 → Searches m first r w → Searches m first r []
    searches_over r [] none s = s
    searches_over r (g ∷ w) none s = absurd (omega arith)

  -- nothing waits any more
  pub all_followed : (first r : List Bool) → Searches m first r [] → AreFollowed m r
  all_followed first r s g f h at = by (s.but g f h at)
    where
      by : Contains [] g ⊎ IsFollowed r f → IsFollowed r f
      by (inl c) = absurd (let lt : c.0 < 0 = c.1 in omega arith)
      by (inr followed) = followed

no_marks : (n k : ℕ) → slice_get (replicate n false) k ≡ Some true → ⊥
no_marks zero k at = absurd (cc)
no_marks (suc n) zero at = absurd (cc)
no_marks (suc n) (suc k) at = no_marks n k at

pub none_marked : (n : ℕ) (reached : List Bool) → reached ≡ replicate n false → (g : FuncId) → Reaches reached g → ⊥
none_marked n reached is g h = no_marks n g.0 (subst (λ r. slice_get r g.0 ≡ Some true) is h)

module _ (m : Module) (classes : List ReadyClass) (entry : FuncId) (first begun more : List Bool) (none waits wait : List FuncId)
    (nothing : (g : FuncId) → Reaches first g → ⊥) (begins : GoesOn first none begun waits) (goes : GoesOn begun waits more wait) where
  pub followed_but : AreFollowedBut m more wait
  followed_but = followed_still m begun more waits wait (followed_still m first begun none waits (none_followed m first none nothing) begins) goes

  pub all_found : length first ≡ length m.functions → Reaches begun entry → HaveDeinitsMarked more classes → (reached : List Bool) → Searches m more reached []
      → AreFound m classes entry reached
  all_found size marked deinits reached search = record {
    size = search.size ∙ goes.size ∙ begins.size ∙ size;
    begun = search.kept entry (goes.kept entry marked);
    deinits = All-weaker (HoldsOfDeinits (Reaches more)) (HoldsOfDeinits (Reaches reached)) (deinits_stay more reached search.kept) classes deinits;
    followed = all_followed m more reached search;
  }
