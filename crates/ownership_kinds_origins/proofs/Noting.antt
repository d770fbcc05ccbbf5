-- How tables of switches grow.
use Rattle.std.proofs.Common.{◌≡◌, ℕ, ◌+◌, ◌<◌, List, [], ◌∷◌, ◌++◌, length, get_or, take, refl, sym, ap, ◌∙◌, arith, Option, Some, None}
use Rattle.std.specs.List.{filter_map, cons_option, flat_map}
use Rattle.std.specs.Option.{option_to_list}
use Rattle.std.proofs.lemmas.List.{append-nil, take_more}
use Rattle.std.proofs.lemmas.List.Elements.{filter_map-append}
use Rattle.std.proofs.lemmas.List.Concat.{flat_map-append}
use Rattle.sil_ast.specs.declared.function.Block.{Block}
use Rattle.sil_ast.specs.declared.inst.Edge.{Edge}
use Rattle.sil_ast.specs.declared.inst.Inst.{Inst}
use Rattle.ownership_kinds_origins.specs.Switched.{edge_to, switches_from}
use Rattle.ownership_kinds_origins.specs.inner.Tables.{switch_at, first_or, Adds}
use Rattle.ownership_kinds_origins.specs.declared.switched.Switched.{Switched}

first_twice : (o : Option Switched) (xs ys : List Switched) → first_or (first_or o xs) ys ≡ first_or o (xs ++ ys)
first_twice None [] ys = refl
first_twice None (x ∷ xs) ys = refl
first_twice (Some s) xs ys = refl

adds_both : (more next : ℕ → List Switched) (a b c : List (Option Switched)) → length b ≡ length a → Adds more a b → Adds next b c → Adds (λ n. more n ++ next n) a c
adds_both more next a b c size g h n lt =
    h n (omega arith) ∙ ap (λ o. first_or o (next n)) (g n lt) ∙ first_twice (switch_at a n) (more n) (next n)

adds_same : (more next : ℕ → List Switched) (a b : List (Option Switched)) → ((n : ℕ) → more n ≡ next n) → Adds more a b → Adds next a b
adds_same more next a b e h n lt = h n lt ∙ ap (first_or (switch_at a n)) (e n)

filter_map_one : {A B : Type 0} (f : A → Option B) (x : A) → filter_map f (x ∷ []) ≡ option_to_list (f x)
filter_map_one {A} {B} f x = at (f x)
  where
    at : (o : Option B) → cons_option o [] ≡ option_to_list o
    at None = refl
    at (Some y) = refl

pub edges_more : (i : Inst) (edges : List Edge) (k : ℕ) (edge : Edge) (a b c : List (Option Switched)) → k < length edges → edge ≡ get_or edges k edge → length b ≡ length a →
    Adds (λ n. filter_map (edge_to n i) (take k edges)) a b → Adds (λ n. option_to_list (edge_to n i edge)) b c → Adds (λ n. filter_map (edge_to n i) (take (k + 1) edges)) a c
edges_more i edges k edge a b c lt is size g h =
    adds_same (λ n. filter_map (edge_to n i) (take k edges) ++ option_to_list (edge_to n i edge)) (λ n. filter_map (edge_to n i) (take (k + 1) edges)) a c
    (λ n. sym (ap (filter_map (edge_to n i)) (more_is) ∙ filter_map-append (edge_to n i) (take k edges) (edge ∷ [])
    ∙ ap (λ xs. filter_map (edge_to n i) (take k edges) ++ xs) (filter_map_one (edge_to n i) edge)))
    (adds_both (λ n. filter_map (edge_to n i) (take k edges)) (λ n. option_to_list (edge_to n i edge)) a b c size g h)
  where
    more_is : take (k + 1) edges ≡ take k edges ++ edge ∷ []
    more_is = take_more edges k edge lt ∙ ap (λ x. take k edges ++ x ∷ []) (sym is)

pub blocks_more : (blocks : List Block) (k : ℕ) (block : Block) (a b c : List (Option Switched)) → k < length blocks → block ≡ get_or blocks k block → length b ≡ length a →
    Adds (λ n. flat_map (switches_from n) (take k blocks)) a b → Adds (λ n. switches_from n block) b c → Adds (λ n. flat_map (switches_from n) (take (k + 1) blocks)) a c
blocks_more blocks k block a b c lt is size g h =
    adds_same (λ n. flat_map (switches_from n) (take k blocks) ++ switches_from n block) (λ n. flat_map (switches_from n) (take (k + 1) blocks)) a c
    (λ n. sym (ap (flat_map (switches_from n)) more_is ∙ flat_map-append (switches_from n) (take k blocks) (block ∷ [])
    ∙ ap (λ xs. flat_map (switches_from n) (take k blocks) ++ xs) (append-nil (switches_from n block))))
    (adds_both (λ n. flat_map (switches_from n) (take k blocks)) (λ n. switches_from n block) a b c size g h)
  where
    more_is : take (k + 1) blocks ≡ take k blocks ++ block ∷ []
    more_is = take_more blocks k block lt ∙ ap (λ x. take k blocks ++ x ∷ []) (sym is)
