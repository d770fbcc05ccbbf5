-- What a rewriting leaves alike: instructions with another op of a like row, lists of them from which some without results are gone, and the
-- blocks and functions that hold such lists. What holds along.
use Rattle.std.proofs.Common.{◌≡◌, ℕ, zero, suc, ◌+◌, List, [], ◌∷◌, ◌++◌, length, map, refl, sym, ap, ap₂, ◌∙◌, Some}
use Rattle.std.specs.Prelude.{slice_get}
use Rattle.std.specs.List.{flat_map}
use Rattle.copy_pairing_model.specs.Rewritten.{with_op}
use Rattle.instruction_table.specs.declared.op.Op.{Op}
use Rattle.instruction_table.specs.declared.op.Op.TheVariants as op
use Rattle.numbered_form.specs.Insts.{EachInBlock}
use Rattle.numbered_form.specs.Lists.{Each}
use Rattle.sil_ast.specs.declared.function.Block.{Block}
use Rattle.sil_ast.specs.declared.function.BlockArg.{BlockArg}
use Rattle.sil_ast.specs.declared.function.Function.{Function}
use Rattle.sil_ast.specs.declared.inst.Inst.{Inst}
use Rattle.sil_types.specs.Typing.RowTypes.{row_types}
use Rattle.sil_types_declarations.specs.TypeDefinitions.Declarations.{Declarations}
use Rattle.numbered_form.specs.ValueTables.ValueRows.{rows_from}

-- the op that an instruction gets in place of its own
pub data Changes : Op → Op → Type 0 where
  borrows : Changes op.CopyValue op.BeginBorrow
  ends : Changes op.DestroyValue op.EndBorrow
  moves : Changes op.CopyValue op.MoveValue

-- what is the same in the rows of both is the same in all
pub same_in_rows : {A : Type 0} (h : Op → A) → h op.CopyValue ≡ h op.BeginBorrow → h op.DestroyValue ≡ h op.EndBorrow → h op.CopyValue ≡ h op.MoveValue
    → (o p : Op) → Changes o p → h o ≡ h p
same_in_rows h x y z _ _ borrows = x
same_in_rows h x y z _ _ ends = y
same_in_rows h x y z _ _ moves = z

-- the same of an instruction's own op
pub kept : {A : Type 0} (h : Op → A) → h op.CopyValue ≡ h op.BeginBorrow → h op.DestroyValue ≡ h op.EndBorrow → h op.CopyValue ≡ h op.MoveValue
    → (i : Inst) (o p : Op) → i.op ≡ o → Changes o p → h i.op ≡ h p
kept h x y z i o p is c = ap h is ∙ same_in_rows h x y z o p c

module _ (d : Declarations) where
  -- the second instruction is the first one, or that with another op, whose row gives the same types
  pub data Alike : Inst → Inst → Type 0 where
    same : (i : Inst) → Alike i i
    changed : (i : Inst) (o p : Op) → i.op ≡ o → Changes o p → row_types d (with_op p i) ≡ row_types d i → Alike i (with_op p i)

  -- what is the same with either op is the same of both
  pub same_of_both : {A : Type 0} (h : Inst → A) → ((i : Inst) → h (with_op op.CopyValue i) ≡ h (with_op op.BeginBorrow i))
      → ((i : Inst) → h (with_op op.DestroyValue i) ≡ h (with_op op.EndBorrow i)) → ((i : Inst) → h (with_op op.CopyValue i) ≡ h (with_op op.MoveValue i))
      → (i j : Inst) → Alike i j → h j ≡ h i
  same_of_both h x y z _ _ (same i) = refl
  same_of_both h x y z _ _ (changed i o p is c row) = sym (kept (λ q. h (with_op q i)) (x i) (y i) (z i) i o p is c)

  pub data Rest : List Inst → List Inst → Type 0 where
    nothing : Rest [] []
    keeps : {i j : Inst} {is js : List Inst} → Alike i j → Rest is js → Rest (i ∷ is) (j ∷ js)
    goes : {i : Inst} {is js : List Inst} → i.results ≡ [] → Rest is js → Rest (i ∷ is) js

  pub data Blocks : List Block → List Block → Type 0 where
    no_block : Blocks [] []
    block : {b : Block} {is : List Inst} {bs cs : List Block} → Rest b.insts is → Blocks bs cs → Blocks (b ∷ bs) (record b { insts = is } ∷ cs)

  pub data Functions : List Function → List Function → Type 0 where
    no_function : Functions [] []
    function : {f : Function} {bs : List Block} {fs gs : List Function} → Blocks f.blocks bs → Functions fs gs
        → Functions (f ∷ fs) (record f { blocks = bs } ∷ gs)

  pub same_insts : (is : List Inst) → Rest is is
  same_insts [] = nothing
  same_insts (i ∷ is) = keeps (same i) (same_insts is)

  pub same_blocks : (bs : List Block) → Blocks bs bs
  same_blocks [] = no_block
  same_blocks (b ∷ bs) = block (same_insts b.insts) (same_blocks bs)

  pub same_functions : (fs : List Function) → Functions fs fs
  same_functions [] = no_function
  same_functions (f ∷ fs) = function (same_blocks f.blocks) (same_functions fs)

  -- ---- what holds of each

  module _ (P Q : Inst → Type 0) (stays : (i j : Inst) → Alike i j → P i → Q j) where
    pub each_inst : (is js : List Inst) → Rest is js → Each P is → Each Q js
    each_inst _ _ nothing h = tt
    each_inst _ _ (keeps {i = i} {j = j} {is = is} {js = js} a r) h = (stays i j a h.0, each_inst is js r h.1)
    each_inst _ _ (goes {is = is} {js = js} e r) h = each_inst is js r h.1

    pub each_in_blocks : (bs cs : List Block) → Blocks bs cs → Each (EachInBlock P) bs → Each (EachInBlock Q) cs
    each_in_blocks _ _ no_block h = tt
    each_in_blocks _ _ (block {b = b} {is = is} {bs = bs} {cs = cs} r rest) h =
        ((each_inst b.insts is r h.0.0, stays b.terminator b.terminator (same b.terminator) h.0.1), each_in_blocks bs cs rest h.1)

  pub each_block : (P Q : Block → Type 0) → ((b : Block) (is : List Inst) → Rest b.insts is → P b → Q (record b { insts = is })) → (bs cs : List Block)
      → Blocks bs cs → Each P bs → Each Q cs
  each_block P Q stays _ _ no_block h = tt
  each_block P Q stays _ _ (block {b = b} {is = is} {bs = bs} {cs = cs} r rest) h = (stays b is r h.0, each_block P Q stays bs cs rest h.1)

  pub each_function : (P Q : Function → Type 0) → ((f : Function) (bs : List Block) → Blocks f.blocks bs → P f → Q (record f { blocks = bs }))
      → (fs gs : List Function) → Functions fs gs → Each P fs → Each Q gs
  each_function P Q stays _ _ no_function h = tt
  each_function P Q stays _ _ (function {f = f} {bs = bs} {fs = fs} {gs = gs} r rest) h = (stays f bs r h.0, each_function P Q stays fs gs rest h.1)

  -- ---- what is the same

  pub as_many_blocks : (bs cs : List Block) → Blocks bs cs → length cs ≡ length bs
  as_many_blocks _ _ no_block = refl
  as_many_blocks _ _ (block {bs = bs} {cs = cs} r rest) = ap suc (as_many_blocks bs cs rest)

  pub as_many_functions : (fs gs : List Function) → Functions fs gs → length gs ≡ length fs
  as_many_functions _ _ no_function = refl
  as_many_functions _ _ (function {fs = fs} {gs = gs} r rest) = ap suc (as_many_functions fs gs rest)

  -- what the blocks of a function don't tell is the same of each function
  pub mapped_alike : {A : Type 0} (h : Function → A) → ((f : Function) (bs : List Block) → h (record f { blocks = bs }) ≡ h f) → (fs gs : List Function)
      → Functions fs gs → map h gs ≡ map h fs
  mapped_alike h e _ _ no_function = refl
  mapped_alike h e _ _ (function {f = f} {bs = bs} {fs = fs} {gs = gs} r rest) = ap₂ (λ x xs. x ∷ xs) (e f bs) (mapped_alike h e fs gs rest)

  -- of instructions that are alike the same is told, and of one without results nothing
  module _ {A : Type 0} (h : Inst → List A) (stays : (i j : Inst) → Alike i j → h j ≡ h i) (silent : (i : Inst) → i.results ≡ [] → h i ≡ []) where
    pub told_of_insts : (is js : List Inst) (t : Inst) → Rest is js → flat_map h (js ++ t ∷ []) ≡ flat_map h (is ++ t ∷ [])
    told_of_insts _ _ t nothing = refl
    told_of_insts _ _ t (keeps {i = i} {j = j} {is = is} {js = js} a r) = ap₂ (λ x y. x ++ y) (stays i j a) (told_of_insts is js t r)
    told_of_insts _ _ t (goes {i = i} {is = is} {js = js} e r) = told_of_insts is js t r ∙ sym (ap (λ x. x ++ flat_map h (is ++ t ∷ [])) (silent i e))

    pub told_of_blocks : (args : ℕ → List BlockArg → List A) (n : ℕ) (bs cs : List Block) → Blocks bs cs → rows_from args h n cs ≡ rows_from args h n bs
    told_of_blocks args n _ _ no_block = refl
    told_of_blocks args n _ _ (block {b = b} {is = is} {bs = bs} {cs = cs} r rest) =
        ap₂ (λ x y. (args n b.args ++ x) ++ y) (told_of_insts b.insts is b.terminator r) (told_of_blocks args (n + 1) bs cs rest)

  -- ---- from what each comes

  pub record FromFunction (fs : List Function) (n : ℕ) (g : Function) : Type 0 where
    pub from : Function
    pub there : slice_get fs n ≡ Some from
    pub blocks : List Block
    pub alike : Blocks from.blocks blocks
    pub is : record from { blocks = blocks } ≡ g

  pub function_from : (fs gs : List Function) (n : ℕ) (g : Function) → Functions fs gs → slice_get gs n ≡ Some g → FromFunction fs n g
  function_from _ _ n g no_function e = absurd (let wrong : slice_get {X = Function} [] n ≡ Some g = e in cc)
  function_from _ _ zero g (function {f = f} {bs = bs} r rest) e = record { from = f; there = refl; blocks = bs; alike = r; is = (cc) }
  function_from _ _ (suc n) g (function {fs = fs} {gs = gs} r rest) e =
      let h = function_from fs gs n g rest e in record { from = h.from; there = h.there; blocks = h.blocks; alike = h.alike; is = h.is }

  pub record FromBlock (bs : List Block) (n : ℕ) (c : Block) : Type 0 where
    pub from : Block
    pub there : slice_get bs n ≡ Some from
    pub insts : List Inst
    pub alike : Rest from.insts insts
    pub is : record from { insts = insts } ≡ c

  pub block_from : (bs cs : List Block) (n : ℕ) (c : Block) → Blocks bs cs → slice_get cs n ≡ Some c → FromBlock bs n c
  block_from _ _ n c no_block e = absurd (let wrong : slice_get {X = Block} [] n ≡ Some c = e in cc)
  block_from _ _ zero c (block {b = b} {is = is} r rest) e = record { from = b; there = refl; insts = is; alike = r; is = (cc) }
  block_from _ _ (suc n) c (block {bs = bs} {cs = cs} r rest) e =
      let h = block_from bs cs n c rest e in record { from = h.from; there = h.there; insts = h.insts; alike = h.alike; is = h.is }

  pub record FromInst (is : List Inst) (j : Inst) : Type 0 where
    pub index : ℕ
    pub from : Inst
    pub there : slice_get is index ≡ Some from
    pub alike : Alike from j

  behind : (i : Inst) (is : List Inst) (j : Inst) → FromInst is j → FromInst (i ∷ is) j
  behind i is j h = record { index = suc h.index; from = h.from; there = h.there; alike = h.alike }

  pub inst_from : (is js : List Inst) (t : Inst) (n : ℕ) (j : Inst) → Rest is js → slice_get (js ++ t ∷ []) n ≡ Some j → FromInst (is ++ t ∷ []) j
  inst_from _ _ t zero j nothing e = let same_one : t ≡ j = cc in record { index = 0; from = j; there = ap Some same_one; alike = same j }
  inst_from _ _ t (suc n) j nothing e = absurd (let wrong : slice_get {X = Inst} [] n ≡ Some j = e in cc)
  inst_from _ _ t zero k (keeps {i = i} {j = j} {is = is} {js = js} a r) e = let same_one : j ≡ k = cc in record { index = 0; from = i; there = refl; alike = subst_alike i j k same_one a }
    where
      subst_alike : (i j k : Inst) → j ≡ k → Alike i j → Alike i k
      subst_alike i j k e a = rw e at a
  inst_from _ _ t (suc n) k (keeps {i = i} {j = j} {is = is} {js = js} a r) e = behind i (is ++ t ∷ []) k (inst_from is js t n k r e)
  inst_from _ _ t n k (goes {i = i} {is = is} {js = js} x r) e = behind i (is ++ t ∷ []) k (inst_from is js t n k r e)
