-- The counts of what rows give, along with the blocks: those of a block's instructions stand before those of the blocks behind it.
use Rattle.std.proofs.Common.{◌≡◌, ℕ, ◌+◌, ◌<◌, ◌≤◌, suc, List, [], ◌∷◌, ◌++◌, drop, get_or, length, length-append, map, sym, take, ap, ◌∙◌, add-one, arith}
use Rattle.std.specs.Prelude.{Option, None}
use Rattle.std.proofs.Math.ListN.{get_or-map}
use Rattle.std.proofs.Math.Seq.{drop-append_seam, drop-cons, get_or-append_seam, take-append_seam}
use Rattle.std.proofs.lemmas.List.{get_or_default, length-map, map-append}
use Rattle.sil_ast.specs.declared.function.Block.{Block}
use Rattle.sil_ast.specs.declared.inst.Inst.{Inst}
use Rattle.numbered_form.specs.Insts.{insts_in, insts_of}

pub next_block : (blocks : List Block) (i : ℕ) (b : Block) → i < length blocks → b ≡ get_or blocks i b → drop i blocks ≡ b ∷ drop (i + 1) blocks
next_block blocks i b lt is = drop-cons blocks i b lt ∙ ap (λ x. x ∷ drop (suc i) blocks) (sym is) ∙ ap (λ k. b ∷ drop k blocks) (sym (add-one i))

module _ (count : Inst → Option ℕ) where
  -- a block has one more than it has instructions before its terminator
  pub size_in_block : (b : Block) → length (map count (insts_of b)) ≡ length b.insts + 1
  size_in_block b = length-map (insts_of b) count ∙ length-append b.insts (b.terminator ∷ [])

  pub of_block : (b : Block) → map count (insts_of b) ≡ map count b.insts ++ count b.terminator ∷ []
  of_block b = map-append count b.insts (b.terminator ∷ [])

  pub before_last : (b : Block) (counts : List (Option ℕ)) → counts ≡ map count (insts_of b) → take (length b.insts) counts ≡ map count b.insts
  before_last b counts e =
      ap (take (length b.insts)) (e ∙ of_block b)
      ∙ ap (λ n. take n (map count b.insts ++ count b.terminator ∷ [])) (sym (length-map b.insts count))
      ∙ take-append_seam (map count b.insts) (count b.terminator ∷ [])

  pub last : (b : Block) (counts : List (Option ℕ)) (d : Option ℕ) → counts ≡ map count (insts_of b) → get_or counts (length b.insts) d ≡ count b.terminator
  last b counts d e =
      ap (λ cs. get_or cs (length b.insts) d) (e ∙ of_block b)
      ∙ ap (λ n. get_or (map count b.insts ++ count b.terminator ∷ []) n d) (sym (length-map b.insts count))
      ∙ get_or-append_seam (map count b.insts) (count b.terminator) [] d

  pub ahead : (rest : List (Option ℕ)) (blocks : List Block) (i : ℕ) (b : Block) → i < length blocks → b ≡ get_or blocks i b →
      rest ≡ map count (insts_in (drop i blocks)) → rest ≡ map count (insts_of b) ++ map count (insts_in (drop (i + 1) blocks))
  ahead rest blocks i b lt is so_far =
      so_far
      ∙ ap (λ bs. map count (insts_in bs)) (next_block blocks i b lt is)
      ∙ map-append count (insts_of b) (insts_in (drop (i + 1) blocks))

  pub room : (b : Block) (rest more : List (Option ℕ)) → rest ≡ map count (insts_of b) ++ more → length b.insts + 1 ≤ length rest
  room b rest more e =
      let all : length rest ≡ length (map count (insts_of b)) + length more = ap length e ∙ length-append (map count (insts_of b)) more in
      let own = size_in_block b in
      omega (arith, all, own)

  pub own_part : (b : Block) (rest more : List (Option ℕ)) (n : ℕ) → n ≡ length b.insts + 1 → rest ≡ map count (insts_of b) ++ more → take n rest ≡ map count (insts_of b)
  own_part b rest more n size e =
      ap (take n) e
      ∙ ap (λ k. take k (map count (insts_of b) ++ more)) (size ∙ sym (size_in_block b))
      ∙ take-append_seam (map count (insts_of b)) more

  pub part_behind : (b : Block) (rest more : List (Option ℕ)) (n : ℕ) → n ≡ length b.insts + 1 → rest ≡ map count (insts_of b) ++ more → drop n rest ≡ more
  part_behind b rest more n size e =
      ap (drop n) e
      ∙ ap (λ k. drop k (map count (insts_of b) ++ more)) (size ∙ sym (size_in_block b))
      ∙ drop-append_seam (map count (insts_of b)) more

-- what stands at an index is the count of the instruction there
pub at_index : (count : Inst → Option ℕ) (counts : List (Option ℕ)) (insts : List Inst) (k j : ℕ) (i : Inst) → k ≡ j → j < length insts → i ≡ get_or insts j i →
    counts ≡ map count insts → get_or counts k None ≡ count i
at_index count counts insts k j i same lt is e =
    let inside : k < length (map count insts) = let size = length-map insts count in omega (arith, size) in
    ap (λ cs. get_or cs k None) e ∙ get_or_default (map count insts) k None (count i) inside ∙ get_or-map count insts k i ∙ ap (λ n. count (get_or insts n i)) same ∙ ap count (sym is)
