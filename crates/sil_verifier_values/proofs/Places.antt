-- Where a function defines a value: among the arguments of one block, or the results of one instruction.
use Rattle.std.proofs.Common.{◌≡◌, ℕ, ◌+◌, ◌<◌, ◌++◌, length, map, refl, sym, ap, ◌∙◌, arith, Option, Some, None}
use Rattle.std.specs.Prelude.{Contains, slice_get}
use Rattle.std.specs.List.{flat_map}
use Rattle.std.proofs.lemmas.List.Elements.{Contains-append_left, Contains-append_right}
use Rattle.sil_cfg_items.specs.Items.{arg_value}
use Rattle.numbered_form.specs.Insts.{insts_of}
use Rattle.numbered_form.specs.Numbering.{AreCountedFrom, defined_in, results_of, values_of}
use Rattle.numbered_form.specs.PointChecks.Points.{IsAt}
use Rattle.sil_ast.specs.Blocks.{args_in, args_of}
use Rattle.sil_ast.specs.declared.function.Block.{Block}
use Rattle.sil_ast.specs.declared.function.BlockArg.{BlockArg}
use Rattle.sil_ast.specs.declared.function.Function.{Function}
use Rattle.sil_ast.specs.declared.inst.Inst.{Inst}
use Rattle.sil_ast.specs.declared.place.ValueId.{ValueId}
use Rattle.numbered_form.proofs.Counted.{counted_split}
use Rattle.numbered_form.proofs.Lists.{contained}
use Rattle.sil_verifier_values.proofs.Counted.{apart, contains_map, counted_in, in_all, nothing_in, one_of, within}

-- the value is an argument of the block with this number
abbrev pub IsArgumentOf : Function → ℕ → ValueId → Type 0
IsArgumentOf f b v = Contains (map arg_value (args_of f b)) v

record InBlock (f : Function) (b : ℕ) (v : ValueId) : Type 0 where
  block : Block
  is_block : slice_get f.blocks b ≡ Some block
  there : Contains (map arg_value block.args) v

in_block : (f : Function) (b : ℕ) (v : ValueId) → IsArgumentOf f b v → InBlock f b v
in_block f b v c = at (slice_get f.blocks b) refl c
  where
    at : (o : Option Block) → slice_get f.blocks b ≡ o → Contains (map arg_value (args_in o)) v → InBlock f b v
    at None e h = absurd (nothing_in v h)
    at (Some block) e h = record { block = block; is_block = e; there = h }

module _ (f : Function) (counted : AreCountedFrom 0 (values_of f.blocks)) (v : ValueId) where
  abbrev DefinedIn : Block → Type 0
  DefinedIn b = Contains (defined_in b) v

  -- ---- in one block

  same_block : (b c : ℕ) (x y : Block) → slice_get f.blocks b ≡ Some x → slice_get f.blocks c ≡ Some y → DefinedIn x → DefinedIn y → b ≡ c
  same_block b c x y e h p q = one_of defined_in 0 f.blocks b c x y v counted e h p q

  as_argument : (b : Block) → Contains (map arg_value b.args) v → DefinedIn b
  as_argument b c = Contains-append_left (map arg_value b.args) (flat_map results_of (insts_of b)) v c

  as_result : (b : Block) (k : ℕ) (i : Inst) → slice_get (insts_of b) k ≡ Some i → Contains i.results v → DefinedIn b
  as_result b k i e c = Contains-append_right (map arg_value b.args) (flat_map results_of (insts_of b)) v (in_all results_of (insts_of b) k i v e c)

  counted_parts : (b : ℕ) (x : Block) → slice_get f.blocks b ≡ Some x → (t : ℕ) × AreCountedFrom t (map arg_value x.args ++ flat_map results_of (insts_of x))
  counted_parts b x e = counted_in defined_in 0 f.blocks b x counted e

  -- ---- at one place

  pub arguments_once : (b c : ℕ) → IsArgumentOf f b v → IsArgumentOf f c v → b ≡ c
  arguments_once b c p q =
      let x = in_block f b v p in
      let y = in_block f c v q in
      same_block b c x.block y.block x.is_block y.is_block (as_argument x.block x.there) (as_argument y.block y.there)

  pub no_argument_and_result : (b c k : ℕ) (i : Inst) → IsArgumentOf f b v → IsAt f c k i → Contains i.results v → ⊥
  no_argument_and_result b c k i p at q =
      let x = in_block f b v p in
      let block : b ≡ c = same_block b c x.block at.within x.is_block at.is_block (as_argument x.block x.there) (as_result at.within k i at.is_inst q) in
      let found : slice_get f.blocks b ≡ Some at.within = ap (slice_get f.blocks) block ∙ at.is_block in
      let same : x.block ≡ at.within = let there = x.is_block in cc in
      let parts = counted_parts b x.block x.is_block in
      let insts : slice_get (insts_of x.block) k ≡ Some i = ap (λ (z : Block). slice_get (insts_of z) k) same ∙ at.is_inst in
      apart parts.0 (map arg_value x.block.args) (flat_map results_of (insts_of x.block)) v parts.1 x.there (in_all results_of (insts_of x.block) k i v insts q)

  pub results_once : (b c k l : ℕ) (i j : Inst) → IsAt f b k i → IsAt f c l j → Contains i.results v → Contains j.results v → (b ≡ c) × (k ≡ l)
  results_once b c k l i j at by p q =
      let block : b ≡ c =
      same_block b c at.within by.within at.is_block by.is_block (as_result at.within k i at.is_inst p) (as_result by.within l j by.is_inst q) in
      let found : slice_get f.blocks b ≡ Some by.within = ap (slice_get f.blocks) block ∙ by.is_block in
      let same : by.within ≡ at.within = let there = at.is_block in cc in
      let insts : slice_get (insts_of at.within) l ≡ Some j = sym (ap (λ (z : Block). slice_get (insts_of z) l) same) ∙ by.is_inst in
      let parts = counted_parts b at.within at.is_block in
      let results = (counted_split parts.0 (map arg_value at.within.args) (flat_map results_of (insts_of at.within)) parts.1).1 in
      (block, one_of results_of (parts.0 + length (map arg_value at.within.args)) (insts_of at.within) k l i j v results at.is_inst insts p q)

-- ---- what is defined is a value

pub argument_is_value : (f : Function) → AreCountedFrom 0 (values_of f.blocks) → (b k : ℕ) (a : BlockArg) → slice_get (args_of f b) k ≡ Some a → a.value.0 < length (values_of f.blocks)
argument_is_value f counted b k a at =
    let c : IsArgumentOf f b a.value = contains_map arg_value (args_of f b) a (contained (args_of f b) k a at) in
    let x = in_block f b a.value c in
    let lt : a.value.0 < 0 + length (values_of f.blocks) =
    (within 0 (values_of f.blocks) a.value counted (in_all defined_in f.blocks b x.block a.value x.is_block (as_argument f counted a.value x.block x.there))).1 in
    omega arith

pub result_is_value : (f : Function) → AreCountedFrom 0 (values_of f.blocks) → (b k j : ℕ) (i : Inst) (v : ValueId) → IsAt f b k i → slice_get i.results j ≡ Some v
    → v.0 < length (values_of f.blocks)
result_is_value f counted b k j i v at is =
    let lt : v.0 < 0 + length (values_of f.blocks) =
    (within 0 (values_of f.blocks) v counted (in_all defined_in f.blocks b at.within v at.is_block
    (as_result f counted v at.within k i at.is_inst (contained i.results j v is)))).1 in
    omega arith
