-- Tests that compute, and what holds where they are passed.
use Rattle.std.proofs.Common.{◌≡◌, ℕ, ◌≤◌, List, [], ◌∷◌, length, Bool, true, false, not, ◌&&◌, IsTrue, IsFalse, IfSome, Option, Some, None, is_none, refl, sym, arith, true≢false}
use Rattle.std.specs.List.{list_all}
use Rattle.std.proofs.lemmas.Bool.{and_parts}
use Rattle.numbered_form.specs.Insts.{EachInBlock}
use Rattle.numbered_form.specs.Lists.{Each, is_empty}
use Rattle.sil_ast.specs.declared.function.Block.{Block}
use Rattle.sil_ast.specs.declared.inst.Inst.{Inst}

abbrev pub if_some : {A : Type 0} → (A → Bool) → Option A → Bool
if_some test None = true
if_some test (Some x) = test x

abbrev pub same_bool : Bool → Bool → Bool
same_bool true b = b
same_bool false b = not b

pub same_told : (a b : Bool) → IsTrue (same_bool a b) → a ≡ b
same_told true b h = sym h
same_told false true h = h
same_told false false h = refl

pub not_told : (b : Bool) → IsTrue (not b) → IsFalse b
not_told true h = sym h
not_told false h = refl

pub empty_told : {A : Type 0} (xs : List A) → IsTrue (is_empty xs) → xs ≡ []
empty_told [] h = refl
empty_told (x ∷ xs) h = absurd (true≢false (sym h))

pub empty_short : {A : Type 0} (xs : List A) (n : ℕ) → IsTrue (is_empty xs) → length xs ≤ n
empty_short [] n h = omega arith
empty_short (x ∷ xs) n h = absurd (true≢false (sym h))

module _ {A : Type 0} (P : A → Type 0) where
  pub empty_each : (xs : List A) → IsTrue (is_empty xs) → Each P xs
  empty_each [] h = tt
  empty_each (x ∷ xs) h = absurd (true≢false (sym h))

  pub none_told : (o : Option A) → IsTrue (is_none o) → IfSome o P
  none_told None h = tt
  none_told (Some x) h = absurd (true≢false (sym h))

  module _ (test : A → Bool) (sound : (x : A) → IsTrue (test x) → P x) where
    pub some_by : (o : Option A) → IsTrue (if_some test o) → IfSome o P
    some_by None h = tt
    some_by (Some x) h = sound x h

    pub each_by : (xs : List A) → IsTrue (list_all test xs) → Each P xs
    each_by [] h = tt
    each_by (x ∷ xs) h = let both = and_parts (test x) (list_all test xs) h in (sound x both.0, each_by xs both.1)

abbrev pub itself : Bool → Bool
itself b = b

-- all of these are true
abbrev pub all : List Bool → Bool
all bs = list_all itself bs

pub all_told : (bs : List Bool) → IsTrue (all bs) → Each IsTrue bs
all_told = each_by IsTrue itself (λ b h. h)

-- each instruction of a block passes the test, and its terminator
abbrev pub passes_in_block : (Inst → Bool) → Block → Bool
passes_in_block test b = list_all test b.insts && test b.terminator

module _ (P : Inst → Type 0) (test : Inst → Bool) (sound : (i : Inst) → IsTrue (test i) → P i) where
  pub in_block_by : (b : Block) → IsTrue (passes_in_block test b) → EachInBlock P b
  in_block_by b h =
      let both = and_parts (list_all test b.insts) (test b.terminator) h in (each_by P test sound b.insts both.0, sound b.terminator both.1)

  pub in_blocks_by : (bs : List Block) → IsTrue (list_all (passes_in_block test) bs) → Each (EachInBlock P) bs
  in_blocks_by = each_by (EachInBlock P) (passes_in_block test) in_block_by
