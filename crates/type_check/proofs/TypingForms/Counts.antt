-- What is counted of edges from an index on, and the first that fails a test.
use Rattle.std.proofs.Common.{◌≡◌, ℕ, ◌+◌, ◌<◌, List, length, get_or, drop, cond, ap, sym, ◌∙◌, Bool, false}
use Rattle.std.specs.Prelude.{◌&&◌}
use Rattle.std.proofs.lemmas.List.{drop_more}
use Rattle.std.proofs.lemmas.List.Sums.{sum_by-cons}
use Rattle.std.specs.List.{count_by, list_all}
use Rattle.sil_ast.specs.declared.inst.Edge.{Edge}
use Rattle.sil_types.specs.Typing.SwitchRules.{is_to}

-- the edges from an index on are the edge there and those behind it
pub edges_from : (k i : ℕ) (es : List Edge) (e : Edge) → i < length es → e ≡ get_or es i e → count_by (is_to k) (drop i es) ≡ cond (is_to k e) 1 0 + count_by (is_to k) (drop (i + 1) es)
edges_from k i es e lt is =
    ap (count_by (is_to k)) (drop_more es i e lt)
    ∙ sum_by-cons (λ x. cond (is_to k x) 1 0) (get_or es i e) (drop (i + 1) es)
    ∙ ap (λ x. cond (is_to k x) 1 0 + count_by (is_to k) (drop (i + 1) es)) (sym is)

-- an edge from an index on that fails the test
pub all_stop : (test : Edge → Bool) (es : List Edge) (i : ℕ) (e : Edge) → i < length es → e ≡ get_or es i e → test e ≡ false → list_all test (drop i es) ≡ false
all_stop test es i e lt is fails =
    ap (list_all test) (drop_more es i e lt)
    ∙ ap (λ b. b && list_all test (drop (i + 1) es)) (ap test (sym is) ∙ fails)
