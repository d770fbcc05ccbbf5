-- What a look at one number or at all leaves of an order and its marks.
use Rattle.std.proofs.Common.{◌≡◌, ℕ, suc, ◌+◌, ◌<◌, ◌≤◌, List, [], ◌∷◌, ◌++◌, length, get_or, set, take, sym, ◌∙◌, subst, arith, Bool, true, false, not, ◌⊎◌, inl, inr, get_or-set_same}
use Rattle.std.specs.Prelude.{All, Contains, count_by}
use Rattle.std.specs.List.{list_all}
use Rattle.std.proofs.lemmas.List.{length-set, length_push, take-append-le, take_all, get_or_push, get_or_append_left}
use Rattle.std.proofs.lemmas.Bool.{cases_lt}
use Rattle.std.proofs.lemmas.List.Sums.{AllPass-from_list_all}
use Rattle.std.proofs.lemmas.List.Elements.{All-push, All-weaker, Contains-append_left, Contains-push}
use Rattle.number_tables.specs.ContainmentOrder.Chains.{Graph, parts_of}
use Rattle.number_tables.specs.ContainmentOrder.inner.Order.{ArePartsBefore}
use Rattle.number_tables.specs.ContainmentOrder.inner.Search.{IsMarked}
use Rattle.number_tables.specs.ContainmentOrder.inner.Settling.{Settles, is_marked}
use Rattle.number_tables.proofs.ContainmentOrder.Chaining.{count_set, set_keeps, set_only}

-- a number whose parts are placed goes behind them
module _ (graph : Graph) (marks : List Bool) (order : List ℕ) (v : ℕ) (inside : v < length graph) (s : Settles graph marks order) (off : get_or marks v false ≡ false)
    (parts : list_all (is_marked marks) (parts_of graph v) ≡ true) where
  within : v < length marks
  within = let size : length marks ≡ length graph = s.size in omega arith

  here : IsMarked (set marks v true) v
  here = get_or-set_same marks v true false within

  placed : (x : ℕ) → IsMarked marks x ⊎ (x ≡ v) → Contains (order ++ v ∷ []) x
  placed x (inl h) = Contains-append_left order (v ∷ []) x (s.placed x h)
  placed x (inr e) = subst (Contains (order ++ v ∷ [])) (sym e) (Contains-push order v)

  parts_before : All (Contains order) (parts_of graph v)
  parts_before = All-weaker (λ x. is_marked marks x ≡ true) (Contains order) s.placed (parts_of graph v) (AllPass-from_list_all (is_marked marks) (parts_of graph v) parts)

  old_place : (i : ℕ) → i < length order → All (Contains (take i (order ++ v ∷ []))) (parts_of graph (get_or (order ++ v ∷ []) i 0))
  old_place i lt =
      subst (λ xs. All (Contains xs) (parts_of graph (get_or (order ++ v ∷ []) i 0))) (sym (take-append-le i order (v ∷ []) (omega arith)))
      (subst (λ x. All (Contains (take i order)) (parts_of graph x)) (sym (get_or_append_left order (v ∷ []) 0 i lt)) (s.parts i lt))

  new_place : (i : ℕ) → i ≡ length order → All (Contains (take i (order ++ v ∷ []))) (parts_of graph (get_or (order ++ v ∷ []) i 0))
  new_place i e =
      subst (λ xs. All (Contains xs) (parts_of graph (get_or (order ++ v ∷ []) i 0))) (sym (take-append-le i order (v ∷ []) (omega arith) ∙ take_all i order (omega arith)))
      (subst (λ x. All (Contains order) (parts_of graph x)) (sym (get_or_push order v 0 i (sym e))) parts_before)

  all_before : ArePartsBefore graph (order ++ v ∷ [])
  all_before i lt = at (cases_lt i (length order))
    where
      at : (i < length order) ⊎ (length order ≤ i) → All (Contains (take i (order ++ v ∷ []))) (parts_of graph (get_or (order ++ v ∷ []) i 0))
      at (inl l) = old_place i l
      at (inr le) = new_place i (let long : length (order ++ v ∷ []) ≡ length order + 1 = length_push order v in omega arith)

  pub settles_push : Settles graph (set marks v true) (order ++ v ∷ [])
  settles_push = record {
    size = length-set marks v true ∙ s.size;
    placed = λ x h. placed x (set_only marks v x h);
    marked = All-push (IsMarked (set marks v true)) order v (All-weaker (IsMarked marks) (IsMarked (set marks v true)) (λ x h. set_keeps marks v x within h) order s.marked) here;
    parts = all_before;
    count = (let fewer : suc (count_by not (set marks v true)) ≡ count_by not marks = count_set marks v within off in let longer : length (order ++ v ∷ []) ≡ length order + 1 = length_push order v in
        let count : count_by not marks + length order ≡ length graph = s.count in omega arith);
  }
