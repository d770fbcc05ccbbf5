-- Each rewriting leaves fewer copies, and so does all that is rewritten.
use Rattle.std.proofs.Common.{◌≡◌, ℕ, zero, suc, ◌<◌, ◌≤◌, List, [], ◌∷◌, refl, sym, ap, ap₂, ◌∙◌, subst, Bool, true, false, cond, Option, Some, None, map, eq-eqb, arith}
use Rattle.std.specs.Prelude.{◌&&◌, ◌||◌}
use Rattle.std.specs.List.{remove, slice_get, sum_by}
use Rattle.std.proofs.lemmas.List.Sums.{sum_by-cons}
use Rattle.instruction_table.specs.declared.op.Op.TheVariants as op
use Rattle.sil_ast.specs.declared.function.Block.{Block}
use Rattle.sil_ast.specs.declared.function.Function.{Function}
use Rattle.sil_ast.specs.declared.inst.Inst.{Inst}
use Rattle.sil_ast.specs.declared.module.Module.{Module}
use Rattle.sil_ast.specs.declared.place.PointId.{PointId}
use Rattle.sil_ast.specs.declared.place.ValueId.{ValueId}
use Rattle.sil_cfg_items.specs.Parts.{inst_at, inst_in}
use Rattle.ownership_kinds_origins.specs.ownership_kinds_chains.OwnershipChains.Facts.{has}
use Rattle.copy_pairing_model.specs.Copies.{Copies, IsCopy, is_op}
use Rattle.copy_pairing_model.specs.Rewritten.{changed_at, lent, lent_block, lent_inst, makes, moved, moved_block, takes, with_op}
use Rattle.copy_pairing_model.specs.Counts.{copies, copies_of, copies_of_block, copies_of_function}
use Rattle.copy_pairing_model.specs.Optimised.{IsOptimised, LosesCopies, done, lends, more, moves}
use Rattle.copy_pairing_model.specs.inner.Laws.{AreFewer}
use Rattle.copy_pairing_model.proofs.NoneLeft.{none_rewritten}

module _ {A : Type 0} (weight : A → ℕ) where
  -- one element is lighter
  changed_less : (xs : List A) (n : ℕ) (change : A → A) (x : A) → slice_get xs n ≡ Some x → weight (change x) < weight x → sum_by weight (changed_at n change xs) < sum_by weight xs
  changed_less [] n change x e lt = absurd (let wrong : None ≡ Some x = e in cc)
  changed_less (y ∷ xs) zero change x e lt =
      let same : y ≡ x = cc in
      let less : weight (change y) < weight y = subst (λ z. weight (change z) < weight z) (sym same) lt in
      omega (arith, sum_by-cons weight (change y) xs, sum_by-cons weight y xs, less)
  changed_less (y ∷ xs) (suc n) change x e lt =
      omega (arith, sum_by-cons weight y (changed_at n change xs), sum_by-cons weight y xs, changed_less xs n change x e lt)

  module _ (change : A → A) (never : (x : A) → weight (change x) ≤ weight x) where
    map_most : (xs : List A) → sum_by weight (map change xs) ≤ sum_by weight xs
    map_most [] = omega arith
    map_most (x ∷ xs) = omega (arith, sum_by-cons weight (change x) (map change xs), sum_by-cons weight x xs, never x, map_most xs)

    -- no element is heavier, and one is lighter
    map_less : (xs : List A) (n : ℕ) (x : A) → slice_get xs n ≡ Some x → weight (change x) < weight x → sum_by weight (map change xs) < sum_by weight xs
    map_less [] n x e lt = absurd (let wrong : None ≡ Some x = e in cc)
    map_less (y ∷ xs) zero x e lt =
        let same : y ≡ x = cc in
        let less : weight (change y) < weight y = subst (λ z. weight (change z) < weight z) (sym same) lt in
        omega (arith, sum_by-cons weight (change y) (map change xs), sum_by-cons weight y xs, less, map_most xs)
    map_less (y ∷ xs) (suc n) x e lt =
        omega (arith, sum_by-cons weight (change y) (map change xs), sum_by-cons weight y xs, never y, map_less xs n x e lt)

  remove_most : (xs : List A) (n : ℕ) → sum_by weight (remove xs n) ≤ sum_by weight xs
  remove_most [] zero = omega arith
  remove_most [] (suc n) = omega arith
  remove_most (x ∷ xs) zero = omega (arith, sum_by-cons weight x xs)
  remove_most (x ∷ xs) (suc n) = omega (arith, sum_by-cons weight x (remove xs n), sum_by-cons weight x xs, remove_most xs n)

no_less : (n : ℕ) → 0 ≤ n
no_less n = omega arith

no_more : (n : ℕ) → n ≤ n
no_more n = omega arith

below : (a b c : ℕ) → a ≤ b → b < c → a < c
below a b c le lt = omega arith

at_most : (a b c : ℕ) → a ≤ b → b < c → a ≤ c
at_most a b c le lt = omega arith

some : (n : ℕ) → n ≡ 1 → 0 < n
some n e = omega arith

abbrev copies_of_inst : Inst → ℕ
copies_of_inst i = cond (copies i) 1 0

-- an instruction that becomes another one is no copy then
lent_either : (c : ValueId) (i : Inst) (copies destroys : Bool) → copies_of_inst (cond copies (with_op op.BeginBorrow i) (cond destroys (with_op op.EndBorrow i) i)) ≤ copies_of_inst i
lent_either c i true destroys = no_less (copies_of_inst i)
lent_either c i false true = no_less (copies_of_inst i)
lent_either c i false false = no_more (copies_of_inst i)

lent_most : (c : ValueId) (i : Inst) → copies_of_inst (lent_inst c i) ≤ copies_of_inst i
lent_most c i = lent_either c i (is_op op.CopyValue i && makes c i) (is_op op.DestroyValue i && takes c i)

lent_block_most : (c : ValueId) (b : Block) → copies_of_block (lent_block c b) ≤ copies_of_block b
lent_block_most c b = map_most copies_of_inst (lent_inst c) (lent_most c) b.insts

copy_counts : (i : Inst) (c v : ValueId) → Copies i c v → copies_of_inst i ≡ 1
copy_counts i c v h = ap (λ b. cond b 1 0) h.copies

copy_makes : (i : Inst) (c v : ValueId) → Copies i c v → makes c i ≡ true
copy_makes i c v h = ap (λ results. has results c.0) h.result ∙ ap (λ b. b || false) (eq-eqb c.0 c.0 refl)

lent_copy : (i : Inst) (c v : ValueId) → Copies i c v → copies_of_inst (lent_inst c i) < copies_of_inst i
lent_copy i c v h =
    let borrows : lent_inst c i ≡ with_op op.BeginBorrow i =
    ap₂ (λ x y. cond (x && y) (with_op op.BeginBorrow i) (cond (is_op op.DestroyValue i && takes c i) (with_op op.EndBorrow i) i)) h.copies (copy_makes i c v h) in
    let none : copies_of_inst (lent_inst c i) ≡ 0 = ap copies_of_inst borrows in
    subst (λ n. n < copies_of_inst i) (sym none) (some (copies_of_inst i) (copy_counts i c v h))

record InBlock (f : Function) (p : PointId) (i : Inst) : Type 0 where
  block : Block
  there : slice_get f.blocks p.block.0 ≡ Some block
  inst : slice_get block.insts p.index ≡ Some i

in_block : (f : Function) (p : PointId) (i : Inst) → inst_at f p ≡ Some i → InBlock f p i
in_block f p i e = at (slice_get f.blocks p.block.0) refl
  where
    at : (o : Option Block) → slice_get f.blocks p.block.0 ≡ o → InBlock f p i
    at None none = absurd (let wrong : None ≡ Some i = sym (ap (λ o. inst_in o p.index) none) ∙ e in cc)
    at (Some b) there = record { block = b; there = there; inst = sym (ap (λ o. inst_in o p.index) there) ∙ e }

lent_fewer : (f : Function) (p : PointId) (c v : ValueId) → IsCopy f p c v → copies_of_function (lent c f) < copies_of_function f
lent_fewer f p c v h =
    let at = in_block f p h.inst h.stands in
    map_less copies_of_block (lent_block c) (lent_block_most c) f.blocks p.block.0 at.block at.there
    (map_less copies_of_inst (lent_inst c) (lent_most c) at.block.insts p.index h.inst at.inst (lent_copy h.inst c v h.copies))

moved_fewer : (f : Function) (p : PointId) (c v : ValueId) (last : ℕ) → IsCopy f p c v → copies_of_function (moved p last f) < copies_of_function f
moved_fewer f p c v last h =
    let at = in_block f p h.inst h.stands in
    let changed = changed_at p.index (with_op op.MoveValue) at.block.insts in
    let here : copies_of_inst (with_op op.MoveValue h.inst) < copies_of_inst h.inst = some (copies_of_inst h.inst) (copy_counts h.inst c v h.copies) in
    let less : sum_by copies_of_inst changed < sum_by copies_of_inst at.block.insts = changed_less copies_of_inst at.block.insts p.index (with_op op.MoveValue) h.inst at.inst here in
    let most : sum_by copies_of_inst (remove changed last) ≤ sum_by copies_of_inst changed = remove_most copies_of_inst changed last in
    changed_less copies_of_block f.blocks p.block.0 (moved_block p.index last) at.block at.there
    (below (sum_by copies_of_inst (remove changed last)) (sum_by copies_of_inst changed) (sum_by copies_of_inst at.block.insts) most less)

pub fewer : AreFewer
fewer m n p _ (lends f c v there copy h) = changed_less copies_of_function m.functions n (lent c) f there (lent_fewer f p c v copy)
fewer m n p _ (moves f c v there copy not h) = changed_less copies_of_function m.functions n (moved p h.last) f there (moved_fewer f p c v h.last copy)

never_more : (m last : Module) → IsOptimised m last → copies_of last ≤ copies_of m
never_more m _ (done _ none) = no_more (copies_of m)
never_more m last (more _ next _ h rest) =
    at_most (copies_of last) (copies_of next) (copies_of m) (never_more next last rest) (fewer m h.function h.point next h.rewrites)

pub copies_lost : (m last : Module) → IsOptimised m last → LosesCopies m last
copies_lost m _ (done _ none) = record { fewer = λ some_go. absurd (some_go none); same = λ h. refl }
copies_lost m last (more _ next _ h rest) = record {
  fewer = λ some_go. below (copies_of last) (copies_of next) (copies_of m) (never_more next last rest) (fewer m h.function h.point next h.rewrites);
  same = λ none. absurd (none_rewritten m none h.function h.point next h.rewrites);
}
