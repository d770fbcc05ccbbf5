-- Two tables by value, row by row.
use Rattle.std.proofs.Common.{◌≡◌, ℕ, zero, suc, ◌+◌, List, [], ◌∷◌, ◌++◌, length, replicate, map, arith, Some, refl, subst}
use Rattle.std.specs.Prelude.{slice_get, ⊤}
use Rattle.std.specs.List.{flat_map}
use Rattle.std.proofs.lemmas.Option.{none-some, same_Some}
use Rattle.numbered_form.specs.Insts.{insts_of}
use Rattle.numbered_form.specs.Lists.{Each}
use Rattle.sil_ast.specs.declared.function.Block.{Block}
use Rattle.sil_ast.specs.declared.function.BlockArg.{BlockArg}
use Rattle.sil_ast.specs.declared.inst.Inst.{Inst}
use Rattle.numbered_form.specs.ValueTables.ValueRows.{rows_from}

-- as many, and each two at one place are related
abbrev pub Level : {A B : Type 0} → (A → B → Type 0) → List A → List B → Type 0
Level R [] [] = ⊤
Level R [] (y ∷ ys) = ⊥
Level R (x ∷ xs) [] = ⊥
Level R (x ∷ xs) (y ∷ ys) = R x y × Level R xs ys

pub each_map : {A B : Type 0} (P : B → Type 0) (g : A → B) → ((x : A) → P (g x)) → (xs : List A) → Each P (map g xs)
each_map P g all [] = tt
each_map P g all (x ∷ xs) = (all x, each_map P g all xs)

pub each_copy : {A : Type 0} (P : A → Type 0) (n : ℕ) (x : A) → P x → Each P (replicate n x)
each_copy P zero x h = tt
each_copy P (suc n) x h = (h, each_copy P n x h)

module _ {A B : Type 0} (R : A → B → Type 0) where
  level_append : (xs us : List A) (ys vs : List B) → Level R xs ys → Level R us vs → Level R (xs ++ us) (ys ++ vs)
  level_append [] us [] vs h k = k
  level_append [] us (y ∷ ys) vs h k = absurd h
  level_append (x ∷ xs) us [] vs h k = absurd h
  level_append (x ∷ xs) us (y ∷ ys) vs h k = (h.0, level_append xs us ys vs h.1 k)

  pub level_left : (xs : List A) (ys : List B) → length xs ≡ length ys → Each (λ x. (y : B) → R x y) xs → Level R xs ys
  level_left [] [] e h = tt
  level_left [] (y ∷ ys) e h = absurd (omega arith)
  level_left (x ∷ xs) [] e h = absurd (omega arith)
  level_left (x ∷ xs) (y ∷ ys) e h = (h.0 y, level_left xs ys (omega arith) h.1)

  pub level_right : (xs : List A) (ys : List B) → length xs ≡ length ys → Each (λ y. (x : A) → R x y) ys → Level R xs ys
  level_right [] [] e h = tt
  level_right [] (y ∷ ys) e h = absurd (omega arith)
  level_right (x ∷ xs) [] e h = absurd (omega arith)
  level_right (x ∷ xs) (y ∷ ys) e h = (h.0 x, level_right xs ys (omega arith) h.1)

  pub level_at : (xs : List A) (ys : List B) (n : ℕ) (x : A) → Level R xs ys → slice_get xs n ≡ Some x → (y : B) × (slice_get ys n ≡ Some y) × R x y
  level_at [] ys n x h e = absurd (none-some x e)
  level_at (z ∷ xs) [] n x h e = absurd h
  level_at (z ∷ xs) (y ∷ ys) zero x h e = (y, refl, subst (λ w. R w y) (same_Some z x e) h.0)
  level_at (z ∷ xs) (y ∷ ys) (suc n) x h e = level_at xs ys n x h.1 e

  module _ (args : ℕ → List BlockArg → List A) (others : ℕ → List BlockArg → List B) (results : Inst → List A) (made : Inst → List B)
      (of_args : (n : ℕ) (xs : List BlockArg) → Level R (args n xs) (others n xs)) (of_results : (i : Inst) → Level R (results i) (made i)) where
    of_insts : (is : List Inst) → Level R (flat_map results is) (flat_map made is)
    of_insts [] = tt
    of_insts (i ∷ is) = level_append (results i) (flat_map results is) (made i) (flat_map made is) (of_results i) (of_insts is)

    pub level_rows : (n : ℕ) (blocks : List Block) → Level R (rows_from args results n blocks) (rows_from others made n blocks)
    level_rows n [] = tt
    level_rows n (b ∷ blocks) =
        level_append (args n b.args ++ flat_map results (insts_of b)) (rows_from args results (n + 1) blocks)
        (others n b.args ++ flat_map made (insts_of b)) (rows_from others made (n + 1) blocks)
        (level_append (args n b.args) (flat_map results (insts_of b)) (others n b.args) (flat_map made (insts_of b)) (of_args n b.args) (of_insts (insts_of b)))
        (level_rows (n + 1) blocks)
