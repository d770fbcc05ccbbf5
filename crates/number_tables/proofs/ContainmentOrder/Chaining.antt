-- The search along chains.
use Rattle.std.proofs.Common.{◌≡◌, ◌≢◌, ℕ, zero, suc, ◌+◌, ◌<◌, List, [], ◌∷◌, ◌++◌, length, get_or, set, take, refl, sym, ap, ◌∙◌, subst}
use Rattle.std.proofs.Common.{arith, Bool, true, false, not, cond, ◌⊎◌, inl, inr, append_assoc, get_or-set_same, get_or-set_other}
use Rattle.std.specs.Prelude.{All, Contains, count_by, Some}
use Rattle.std.proofs.lemmas.Bool.{cases_eq}
use Rattle.std.proofs.lemmas.List.{length-set, length_push, take_more}
use Rattle.std.proofs.lemmas.List.Sums.{sum_by-set}
use Rattle.std.proofs.lemmas.List.Elements.{All-more, All-push, All-weaker, All-contains, All-append, All-pop, Contains-append_left, Contains-append_right, Contains-push, Contains-push_cases}
use Rattle.number_tables.specs.ContainmentOrder.Chains.{Graph}
use Rattle.number_tables.specs.ContainmentOrder.Chains.{parts_of}
use Rattle.number_tables.specs.ContainmentOrder.Chains.{Chain, one, more}
use Rattle.number_tables.specs.ContainmentOrder.inner.Search.{IsMarked, AreReached, Visits, Searches}

pub count_set : (marks : List Bool) (i : ℕ) → i < length marks → get_or marks i false ≡ false → suc (count_by not (set marks i true)) ≡ count_by not marks
count_set marks i lt h =
    let e : count_by not (set marks i true) + cond {A = ℕ} (not (get_or marks i false)) 1 0 ≡ count_by not marks + 0 = sum_by-set (λ x. cond (not x) 1 0) marks i true false lt in
    let one : cond {A = ℕ} (not (get_or marks i false)) 1 0 ≡ 1 = ap (λ b. cond {A = ℕ} (not b) 1 0) h in
    omega arith

pub set_keeps : (marks : List Bool) (i v : ℕ) → i < length marks → IsMarked marks v → IsMarked (set marks i true) v
set_keeps marks i v lt h = at (cases_eq v i)
  where
    at : (v ≡ i) ⊎ (v ≢ i) → IsMarked (set marks i true) v
    at (inl e) = ap (λ k. get_or (set marks i true) k false) e ∙ get_or-set_same marks i true false lt
    at (inr n) = get_or-set_other marks i v true false n ∙ h

pub set_only : (marks : List Bool) (i v : ℕ) → IsMarked (set marks i true) v → IsMarked marks v ⊎ (v ≡ i)
set_only marks i v h = at (cases_eq v i)
  where
    at : (v ≡ i) ⊎ (v ≢ i) → IsMarked marks v ⊎ (v ≡ i)
    at (inl e) = inr e
    at (inr n) = inl (sym (get_or-set_other marks i v true false n) ∙ h)

-- marked numbers are places
pub marked_lt : (marks : List Bool) (v : ℕ) → IsMarked marks v → v < length marks
marked_lt [] v h = absurd (cc)
marked_lt (x ∷ marks) zero h = omega arith
marked_lt (x ∷ marks) (suc v) h = let lt : v < length marks = marked_lt marks v h in omega arith

module _ (parts : List ℕ) (marks : List Bool) (stack : List ℕ) where
  pub visit_skip : (marks' : List Bool) (stack' : List ℕ) (i d : ℕ) → i < length parts → Visits (take i parts) marks stack marks' stack' → IsMarked marks' (get_or parts i d)
      → Visits (take (i + 1) parts) marks stack marks' stack'
  visit_skip marks' stack' i d lt v here = record {
    size = v.size;
    kept = v.kept;
    all = All-more (IsMarked marks') parts i d lt v.all here;
    only = λ x h. at x (v.only x h);
    more = v.more;
    grows = v.grows;
    new = v.new;
    marked = v.marked;
    room = v.room;
  }
    where
      at : (x : ℕ) → IsMarked marks x ⊎ Contains (take i parts) x → IsMarked marks x ⊎ Contains (take (i + 1) parts) x
      at x (inl h) = inl h
      at x (inr c) = inr (subst (λ xs. Contains xs x) (sym (take_more parts i d lt)) (Contains-append_left (take i parts) (get_or parts i d ∷ []) x c))

  pub visit_push : (marks' : List Bool) (stack' : List ℕ) (i d : ℕ) → i < length parts → get_or parts i d < length marks' → Visits (take i parts) marks stack marks' stack' →
      get_or marks' (get_or parts i d) false ≡ false →
      Visits (take (i + 1) parts) marks stack (set marks' (get_or parts i d) true) (stack' ++ get_or parts i d ∷ [])
  visit_push marks' stack' i d lt within v off = record {
    size = length-set marks' w true ∙ v.size;
    kept = λ x h. set_keeps marks' w x within (v.kept x h);
    all = All-more (IsMarked new_marks) parts i d lt (All-weaker (IsMarked marks') (IsMarked new_marks) (λ x h. set_keeps marks' w x within h) (take i parts) v.all) here;
    only = λ x h. at x (set_only marks' w x h);
    more = v.more ++ w ∷ [];
    grows = ap (λ s. s ++ w ∷ []) v.grows ∙ append_assoc stack v.more (w ∷ []);
    new = λ x h. fresh x (set_only marks' w x h);
    marked = All-push (IsMarked new_marks) v.more w (All-weaker (IsMarked marks') (IsMarked new_marks) (λ x h. set_keeps marks' w x within h) v.more v.marked) here;
    room = (let fewer : suc (count_by not new_marks) ≡ count_by not marks' = count_set marks' w within off in let longer : length (stack' ++ w ∷ []) ≡ length stack' + 1 = length_push stack' w in
        let room : count_by not marks' + length stack' ≡ count_by not marks + length stack = v.room in omega arith);
  }
    where
      w : ℕ
      w = get_or parts i d

      new_marks : List Bool
      new_marks = set marks' (get_or parts i d) true

      here : IsMarked (set marks' (get_or parts i d) true) (get_or parts i d)
      here = get_or-set_same marks' (get_or parts i d) true false within

      at : (x : ℕ) → IsMarked marks' x ⊎ (x ≡ get_or parts i d) → IsMarked marks x ⊎ Contains (take (i + 1) parts) x
      at x (inl h) = old (v.only x h)
        where
          old : IsMarked marks x ⊎ Contains (take i parts) x → IsMarked marks x ⊎ Contains (take (i + 1) parts) x
          old (inl h) = inl h
          old (inr c) = inr (subst (λ xs. Contains xs x) (sym (take_more parts i d lt)) (Contains-append_left (take i parts) (get_or parts i d ∷ []) x c))
      at x (inr e) =
          inr (subst (λ xs. Contains xs x) (sym (take_more parts i d lt)) (subst (Contains (take i parts ++ get_or parts i d ∷ [])) (sym e) (Contains-push (take i parts) (get_or parts i d))))

      fresh : (x : ℕ) → IsMarked marks' x ⊎ (x ≡ get_or parts i d) → IsMarked marks x ⊎ Contains (v.more ++ get_or parts i d ∷ []) x
      fresh x (inl h) = old (v.new x h)
        where
          old : IsMarked marks x ⊎ Contains v.more x → IsMarked marks x ⊎ Contains (v.more ++ get_or parts i d ∷ []) x
          old (inl h) = inl h
          old (inr c) = inr (Contains-append_left v.more (get_or parts i d ∷ []) x c)
      fresh x (inr e) = inr (subst (Contains (v.more ++ get_or parts i d ∷ [])) (sym e) (Contains-push v.more (get_or parts i d)))

module _ (graph : Graph) (from : ℕ) where
  -- the search when it begins
  pub searches_begun : (marks marks' : List Bool) (stack' : List ℕ) → length marks ≡ length graph → ((v : ℕ) → get_or marks v false ≡ false) → Visits (parts_of graph from) marks [] marks' stack'
      → Searches graph from marks' stack'
  searches_begun marks marks' stack' size none v = record {
    size = v.size ∙ size;
    sound = λ x h. sound x (v.only x h);
    begun = v.all;
    closed = λ x h. inl (subst (λ s. Contains s x) (sym v.grows) (waiting x (v.new x h)));
    waits = subst (All (IsMarked marks')) (sym v.grows) v.marked;
  }
    where
      off : {P : Type 0} → (x : ℕ) → IsMarked marks x → P
      off x h = absurd (let e : get_or marks x false ≡ false = none x in cc (e, h))

      sound : (x : ℕ) → IsMarked marks x ⊎ Contains (parts_of graph from) x → Chain graph from x
      sound x (inl h) = off x h
      sound x (inr c) = one from x c

      waiting : (x : ℕ) → IsMarked marks x ⊎ Contains v.more x → Contains v.more x
      waiting x (inl h) = off x h
      waiting x (inr c) = c

  pub chain_push : (v w u : ℕ) → Chain graph v w → Contains (parts_of graph w) u → Chain graph v u
  chain_push v w u (one _ _ c) d = more v w u c (one w u d)
  chain_push v w u (more _ x _ c h) d = more v x u c (chain_push x w u h d)

  -- the value on top of the stack was visited
  pub searches_more : (marks : List Bool) (rest : List ℕ) (top : ℕ) (stack : List ℕ) (marks' : List Bool) (stack' : List ℕ) → stack ≡ rest ++ top ∷ [] → Searches graph from marks stack →
      Visits (parts_of graph top) marks rest marks' stack' → Searches graph from marks' stack'
  searches_more marks rest top stack marks' stack' parts s v = record {
    size = v.size ∙ s.size;
    sound = λ x h. sound x (v.only x h);
    begun = All-weaker (IsMarked marks) (IsMarked marks') v.kept (parts_of graph from) s.begun;
    closed = λ x h. closed x (v.new x h);
    waits = subst (All (IsMarked marks')) (sym v.grows) (All-append (IsMarked marks') rest v.more (All-weaker (IsMarked marks) (IsMarked marks') v.kept rest waiting) v.marked);
  }
    where
      all : All (IsMarked marks) (rest ++ top ∷ [])
      all = subst (All (IsMarked marks)) parts s.waits

      waiting : All (IsMarked marks) rest
      waiting = (All-pop (IsMarked marks) stack rest (Some top) parts s.waits).0

      here : IsMarked marks top
      here = All-contains (IsMarked marks) (rest ++ top ∷ []) top all (Contains-push rest top)

      sound : (x : ℕ) → IsMarked marks x ⊎ Contains (parts_of graph top) x → Chain graph from x
      sound x (inl h) = s.sound x h
      sound x (inr c) = chain_push from top x (s.sound top here) c

      closed : (x : ℕ) → IsMarked marks x ⊎ Contains v.more x → Contains stack' x ⊎ All (IsMarked marks') (parts_of graph x)
      closed x (inr c) = inl (subst (λ t. Contains t x) (sym v.grows) (Contains-append_right rest v.more x c))
      closed x (inl h) = old (s.closed x h)
        where
          place : Contains rest x ⊎ (top ≡ x) → Contains stack' x ⊎ All (IsMarked marks') (parts_of graph x)
          place (inl c) = inl (subst (λ t. Contains t x) (sym v.grows) (Contains-append_left rest v.more x c))
          place (inr e) = inr (subst (λ y. All (IsMarked marks') (parts_of graph y)) e v.all)

          old : Contains stack x ⊎ All (IsMarked marks) (parts_of graph x) → Contains stack' x ⊎ All (IsMarked marks') (parts_of graph x)
          old (inl c) = place (Contains-push_cases rest top x (subst (λ t. Contains t x) parts c))
          old (inr a) = inr (All-weaker (IsMarked marks) (IsMarked marks') v.kept (parts_of graph x) a)

  -- at the end exactly what chains lead to is marked
  pub searches_over : (marks : List Bool) (stack : List ℕ) → length stack ≡ 0 → Searches graph from marks stack → AreReached graph from marks
  searches_over marks stack none s v lt = (s.sound v, λ h. along from v h s.begun)
    where
      closed : (x : ℕ) → IsMarked marks x → All (IsMarked marks) (parts_of graph x)
      closed x h = at (s.closed x h)
        where
          at : Contains stack x ⊎ All (IsMarked marks) (parts_of graph x) → All (IsMarked marks) (parts_of graph x)
          at (inl c) = absurd (let lt : c.0 < length stack = c.1 in omega arith)
          at (inr a) = a

      along : (a b : ℕ) → Chain graph a b → All (IsMarked marks) (parts_of graph a) → IsMarked marks b
      along a b (one _ _ c) all = All-contains (IsMarked marks) (parts_of graph a) b all c
      along a b (more _ u _ c h) all = along u b h (closed u (All-contains (IsMarked marks) (parts_of graph a) u all c))

pub visits_same : (parts : List ℕ) (marks : List Bool) (stack : List ℕ) (marks' m : List Bool) (stack' s : List ℕ) → marks' ≡ m → stack' ≡ s → Visits parts marks stack m s
    → Visits parts marks stack marks' stack'
visits_same parts marks stack marks' m stack' s a b h = subst (λ x. Visits parts marks stack x stack') (sym a) (subst (λ y. Visits parts marks stack m y) (sym b) h)

-- the parts of a number are what stands at its place
pub parts_are : (graph : Graph) (v : ℕ) (parts : List ℕ) → parts ≡ get_or graph v parts → v < length graph → parts ≡ parts_of graph v
parts_are graph v parts is lt = is ∙ get_or_default graph v parts [] lt
  where
    get_or_default : (graph : Graph) (v : ℕ) (d e : List ℕ) → v < length graph → get_or graph v d ≡ get_or graph v e
    get_or_default [] v d e lt = absurd (omega arith)
    get_or_default (x ∷ graph) zero d e lt = refl
    get_or_default (x ∷ graph) (suc v) d e lt = get_or_default graph v d e (omega arith)

-- what waits on the stack is a number of the graph
pub waiting_inside : (graph : Graph) (from : ℕ) (marks : List Bool) (stack rest : List ℕ) (top : ℕ) → stack ≡ rest ++ top ∷ [] → Searches graph from marks stack → top < length graph
waiting_inside graph from marks stack rest top parts s =
    let here : IsMarked marks top = All-contains (IsMarked marks) (rest ++ top ∷ []) top (subst (All (IsMarked marks)) parts s.waits) (Contains-push rest top) in
    let lt : top < length marks = marked_lt marks top here in
    let size : length marks ≡ length graph = s.size in
    omega arith
