-- A rewriting makes no block longer, and declares the same.
use Rattle.std.proofs.Common.{◌≡◌, ◌≢◌, ◌⊎◌, inl, inr, ℕ, zero, suc, ◌<◌, ◌≤◌, List, [], ◌∷◌, length, refl, sym, ap, ◌∙◌, subst, Option, Some, None, map, arith}
use Rattle.std.specs.List.{remove, slice_get}
use Rattle.std.proofs.lemmas.Bool.{cases_eq}
use Rattle.std.proofs.lemmas.List.{length-map}
use Rattle.std.proofs.lemmas.Option.{slice_get_within}
use Rattle.instruction_table.specs.declared.op.Op.TheVariants as op
use Rattle.sil_ast.specs.declared.function.Block.{Block}
use Rattle.sil_ast.specs.declared.function.Function.{Function}
use Rattle.sil_ast.specs.declared.module.Module.{Module}
use Rattle.sil_ast.specs.declared.place.PointId.{PointId}
use Rattle.sil_ast.specs.declared.place.ValueId.{ValueId}
use Rattle.sil_cfg_items.specs.Parts as parts
use Rattle.sil_types_declarations.specs.TypeDefinitions.Declarations.{declarations_of}
use Rattle.copy_pairing_model.specs.Copies.{IsCopy}
use Rattle.copy_pairing_model.specs.Rewritten.{changed_at, lent, lent_block, lent_inst, moved, moved_block, with_function, with_op}
use Rattle.copy_pairing_model.specs.Optimised.{Rewrites, lends, moves}
use Rattle.copy_pairing.specs.inner.Passes.{IsNoLonger, blocks_at, blocks_in, insts_at, insts_in}

module _ {A : Type 0} (change : A → A) where
  length_changed : (n : ℕ) (xs : List A) → length (changed_at n change xs) ≡ length xs
  length_changed n [] = refl
  length_changed zero (x ∷ xs) = refl
  length_changed (suc n) (x ∷ xs) = let rest : length (changed_at n change xs) ≡ length xs = length_changed n xs in omega arith

  get_changed : (n : ℕ) (xs : List A) (x : A) → slice_get xs n ≡ Some x → slice_get (changed_at n change xs) n ≡ Some (change x)
  get_changed n [] x e = absurd (let wrong : None ≡ Some x = e in cc)
  get_changed zero (y ∷ xs) x e = let same : y ≡ x = cc in ap (λ a. Some (change a)) same
  get_changed (suc n) (y ∷ xs) x e = get_changed n xs x e

  get_other : (n k : ℕ) (xs : List A) → n ≢ k → slice_get (changed_at n change xs) k ≡ slice_get xs k
  get_other n k [] ne = refl
  get_other zero zero (x ∷ xs) ne = absurd (ne refl)
  get_other zero (suc k) (x ∷ xs) ne = refl
  get_other (suc n) zero (x ∷ xs) ne = refl
  get_other (suc n) (suc k) (x ∷ xs) ne = get_other n k xs (λ e. ne (ap suc e))

length_remove_most : {A : Type 0} (xs : List A) (n : ℕ) → length (remove xs n) ≤ length xs
length_remove_most [] zero = omega arith
length_remove_most [] (suc n) = omega arith
length_remove_most (x ∷ xs) zero = omega arith
length_remove_most (x ∷ xs) (suc n) = let rest : length (remove xs n) ≤ length xs = length_remove_most xs n in omega arith

module _ (change : Block → Block) (never : (b : Block) → length (change b).insts ≤ length b.insts) where
  map_shorter : (bs : List Block) (k : ℕ) → length (insts_in (slice_get (map change bs) k)) ≤ length (insts_in (slice_get bs k))
  map_shorter [] k = omega arith
  map_shorter (b ∷ bs) zero = never b
  map_shorter (b ∷ bs) (suc k) = map_shorter bs k

  changed_shorter : (n : ℕ) (bs : List Block) (k : ℕ) → length (insts_in (slice_get (changed_at n change bs) k)) ≤ length (insts_in (slice_get bs k))
  changed_shorter n [] k = omega arith
  changed_shorter zero (b ∷ bs) zero = never b
  changed_shorter zero (b ∷ bs) (suc k) = omega arith
  changed_shorter (suc n) (b ∷ bs) zero = omega arith
  changed_shorter (suc n) (b ∷ bs) (suc k) = changed_shorter n bs k

lent_shorter : (c : ValueId) (b : Block) → length (lent_block c b).insts ≤ length b.insts
lent_shorter c b = let same : length (map (lent_inst c) b.insts) ≡ length b.insts = length-map b.insts (lent_inst c) in omega arith

moved_shorter : (index last : ℕ) (b : Block) → length (moved_block index last b).insts ≤ length b.insts
moved_shorter index last b =
    let same : length (changed_at index (with_op op.MoveValue) b.insts) ≡ length b.insts = length_changed (with_op op.MoveValue) index b.insts in
    let most : length (remove (changed_at index (with_op op.MoveValue) b.insts) last) ≤ length (changed_at index (with_op op.MoveValue) b.insts) =
    length_remove_most (changed_at index (with_op op.MoveValue) b.insts) last in
    omega arith

-- in the module with one function changed, where that has so many blocks and no longer ones
module _ (m : Module) (n : ℕ) (change : Function → Function) (f : Function) (there : slice_get m.functions n ≡ Some f) (blocks : length (change f).blocks ≡ length f.blocks)
    (insts : (b : ℕ) → length (insts_in (slice_get (change f).blocks b)) ≤ length (insts_in (slice_get f.blocks b))) where
  here_new : (k : ℕ) → n ≡ k → blocks_at (with_function n change m) k ≡ (change f).blocks
  here_new k e = ap (λ x. blocks_at (with_function n change m) x) (sym e) ∙ ap blocks_in (get_changed change n m.functions f there)

  here_old : (k : ℕ) → n ≡ k → blocks_at m k ≡ f.blocks
  here_old k e = ap (λ x. blocks_at m x) (sym e) ∙ ap blocks_in there

  elsewhere : (k : ℕ) → n ≢ k → blocks_at (with_function n change m) k ≡ blocks_at m k
  elsewhere k ne = ap blocks_in (get_other change n k m.functions ne)

  as_many : (k : ℕ) → length (blocks_at (with_function n change m) k) ≡ length (blocks_at m k)
  as_many k = at (cases_eq n k)
    where
      at : (n ≡ k) ⊎ (n ≢ k) → length (blocks_at (with_function n change m) k) ≡ length (blocks_at m k)
      at (inl e) = ap length (here_new k e) ∙ blocks ∙ ap length (sym (here_old k e))
      at (inr ne) = ap length (elsewhere k ne)

  no_more : (k b : ℕ) → length (insts_at (with_function n change m) k b) ≤ length (insts_at m k b)
  no_more k b = at (cases_eq n k)
    where
      at : (n ≡ k) ⊎ (n ≢ k) → length (insts_at (with_function n change m) k b) ≤ length (insts_at m k b)
      at (inl e) =
          let new : length (insts_at (with_function n change m) k b) ≡ length (insts_in (slice_get (change f).blocks b)) = ap (λ bs. length (insts_in (slice_get bs b))) (here_new k e) in
          let old : length (insts_at m k b) ≡ length (insts_in (slice_get f.blocks b)) = ap (λ bs. length (insts_in (slice_get bs b))) (here_old k e) in
          omega (arith, insts b)
      at (inr ne) =
          let same : length (insts_at (with_function n change m) k b) ≡ length (insts_at m k b) = ap (λ bs. length (insts_in (slice_get bs b))) (elsewhere k ne) in
          omega arith

  no_longer : IsNoLonger m (with_function n change m)
  no_longer = record { functions = length_changed change n m.functions; blocks = as_many; insts = no_more }

pub rewritten_shape : (m : Module) (n : ℕ) (p : PointId) (next : Module) → Rewrites m n p next → IsNoLonger m next
rewritten_shape m n p _ (lends f c v there copy h) = no_longer m n (lent c) f there (length-map f.blocks (lent_block c)) (map_shorter (lent_block c) (lent_shorter c) f.blocks)
rewritten_shape m n p _ (moves f c v there copy not h) =
    no_longer m n (moved p h.last) f there (length_changed (moved_block p.index h.last) p.block.0 f.blocks)
    (changed_shorter (moved_block p.index h.last) (moved_shorter p.index h.last) p.block.0 f.blocks)

pub rewritten_declares : (m : Module) (n : ℕ) (p : PointId) (next : Module) → Rewrites m n p next → declarations_of next ≡ declarations_of m
rewritten_declares m n p _ (lends f c v there copy h) = refl
rewritten_declares m n p _ (moves f c v there copy not h) = refl

pub same_shape : (m : Module) → IsNoLonger m m
same_shape m = record { functions = refl; blocks = λ n. refl; insts = λ n b. omega arith }

pub shape_on : (a b c : Module) → IsNoLonger a b → IsNoLonger b c → IsNoLonger a c
shape_on a b c one other = record {
  functions = other.functions ∙ one.functions;
  blocks = λ n. other.blocks n ∙ one.blocks n;
  insts = λ n k. omega (arith, one.insts n k, other.insts n k);
}

-- where a copy that is rewritten stands

pub record StandsAt (m : Module) (n : ℕ) (p : PointId) : Type 0 where
  pub function : n < length m.functions
  pub block : p.block.0 < length (blocks_at m n)
  pub index : p.index < length (insts_at m n p.block.0)

copy_block : (f : Function) (p : PointId) (c v : ValueId) → IsCopy f p c v → p.block.0 < length f.blocks
copy_block f p c v h = at (slice_get f.blocks p.block.0) refl
  where
    at : (o : Option Block) → slice_get f.blocks p.block.0 ≡ o → p.block.0 < length f.blocks
    at None none = absurd (let wrong : None ≡ Some h.inst = sym (ap (λ o. parts.inst_in o p.index) none) ∙ h.stands in cc)
    at (Some block) there = slice_get_within f.blocks p.block.0 block there

copy_index : (f : Function) (p : PointId) (c v : ValueId) → IsCopy f p c v → p.index < length (insts_in (slice_get f.blocks p.block.0))
copy_index f p c v h = at (slice_get f.blocks p.block.0) refl
  where
    at : (o : Option Block) → slice_get f.blocks p.block.0 ≡ o → p.index < length (insts_in (slice_get f.blocks p.block.0))
    at None none = absurd (let wrong : None ≡ Some h.inst = sym (ap (λ o. parts.inst_in o p.index) none) ∙ h.stands in cc)
    at (Some block) there =
        let within : p.index < length block.insts = slice_get_within block.insts p.index h.inst (sym (ap (λ o. parts.inst_in o p.index) there) ∙ h.stands) in
        subst (λ o. p.index < length (insts_in o)) (sym there) within

stands_by : (m : Module) (n : ℕ) (p : PointId) (f : Function) (c v : ValueId) → slice_get m.functions n ≡ Some f → IsCopy f p c v → StandsAt m n p
stands_by m n p f c v there copy = record {
  function = slice_get_within m.functions n f there;
  block = subst (λ o. p.block.0 < length (blocks_in o)) (sym there) (copy_block f p c v copy);
  index = subst (λ o. p.index < length (insts_in (slice_get (blocks_in o) p.block.0))) (sym there) (copy_index f p c v copy);
}

pub stands_at : (m : Module) (n : ℕ) (p : PointId) (next : Module) → Rewrites m n p next → StandsAt m n p
stands_at m n p _ (lends f c v there copy h) = stands_by m n p f c v there copy
stands_at m n p _ (moves f c v there copy not h) = stands_by m n p f c v there copy
