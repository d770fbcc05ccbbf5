-- The block of a copy and of the destroy behind it, part by part, and the same block without them.
use Rattle.std.proofs.Common.{◌≡◌, ℕ, suc, ◌+◌, ◌-◌, ◌<◌, List, ◌∷◌, ◌++◌, length, refl, sym, ap, ◌∙◌, append_assoc, arith, Option, Some, None, length-append}
use Rattle.std.specs.List.{remove, slice_get}
use Rattle.std.proofs.lemmas.Option.{none-some}
use Rattle.instruction_table.specs.declared.op.Op.TheVariants as op
use Rattle.sil_ast.specs.declared.function.Block.{Block}
use Rattle.sil_ast.specs.declared.function.Function.{Function}
use Rattle.sil_ast.specs.declared.inst.Inst.{Inst}
use Rattle.sil_ast.specs.declared.place.PointId.{PointId}
use Rattle.sil_ast.specs.declared.place.ValueId.{ValueId}
use Rattle.sil_cfg.specs.Items.{point_at}
use Rattle.sil_cfg_items.specs.Parts.{inst_in}
use Rattle.copy_pairing_model.specs.Copies.{Copies, Destroys, IsCopy, IsDestroy}
use Rattle.copy_pairing_model.specs.Rewritten.{changed_at, moved_block, with_op}
use Rattle.copy_pairing_acceptance.proofs.MovedFunctions.Lists.{IsSeam, changed_behind, get_behind, removed, seam}

-- a copy c of v stands at the point, and a destroy of v behind it in its block
pub record IsSplit (f : Function) (p : PointId) (last : ℕ) (c v : ValueId) : Type 0 where
  pub block : Block
  pub there : slice_get f.blocks p.block.0 ≡ Some block
  pub front : List Inst
  pub copy : Inst
  pub middle : List Inst
  pub destroy : Inst
  pub back : List Inst
  pub insts : block.insts ≡ front ++ copy ∷ (middle ++ destroy ∷ back)
  pub at_copy : length front ≡ p.index
  pub at_destroy : length front + suc (length middle) ≡ last
  pub copies : Copies copy c v
  pub destroys : Destroys destroy v

-- the copy as a move
abbrev pub move_of : Inst → Inst
move_of i = with_op op.MoveValue i

module _ (f : Function) (p : PointId) (last : ℕ) (c v : ValueId) where
  split_block : (o : Option Block) → slice_get f.blocks p.block.0 ≡ o → p.index < last → (copy destroy : Inst) → inst_in o p.index ≡ Some copy → inst_in o last ≡ Some destroy
      → Copies copy c v → Destroys destroy v → IsSplit f p last c v
  split_block None e behind copy destroy first second copies destroys = absurd (none-some copy first)
  split_block (Some block) e behind copy destroy first second copies destroys = at (seam block.insts p.index copy first)
    where
      at : IsSeam block.insts p.index copy → IsSplit f p last c v
      at s = more (last_seam (by_place s.size))
        where
          by_place : length s.front ≡ p.index → (j : ℕ) × (length s.front + suc j ≡ last)
          by_place size = place (length s.front) last (let lt : length s.front < last = omega arith in lt)
            where
              place : (m n : ℕ) → m < n → (j : ℕ) × (m + suc j ≡ n)
              place m n lt = let a : m + suc (n - suc m) ≡ n = omega arith in (n - suc m, a)

          last_seam : (j : ℕ) × (length s.front + suc j ≡ last) → (j : ℕ) × (length s.front + suc j ≡ last) × IsSeam s.back j destroy
          last_seam (j, is) = (
            j,
            is,
            seam s.back j destroy
                (sym (get_behind s.front (copy ∷ s.back) (suc j)) ∙ ap (slice_get (s.front ++ copy ∷ s.back)) is ∙ ap (λ xs. slice_get xs last) (sym s.parts) ∙ second),
          )

          more : (j : ℕ) × (length s.front + suc j ≡ last) × IsSeam s.back j destroy → IsSplit f p last c v
          more (j, is, t) = record {
            block = block;
            there = e;
            front = s.front;
            copy = copy;
            middle = t.front;
            destroy = destroy;
            back = t.back;
            insts = s.parts ∙ ap (λ xs. s.front ++ copy ∷ xs) t.parts;
            at_copy = s.size;
            at_destroy = ap (λ n. length s.front + suc n) t.size ∙ is;
            copies = copies;
            destroys = destroys;
          }

  pub split : IsCopy f p c v → p.index < last → IsDestroy f (point_at p.block.0 last) v → IsSplit f p last c v
  split copy behind destroy =
      split_block (slice_get f.blocks p.block.0) refl behind copy.inst destroy.inst copy.stands destroy.stands copy.copies destroy.destroys

module _ {f : Function} {p : PointId} {last : ℕ} {c v : ValueId} (s : IsSplit f p last c v) where
  -- the instructions of the block, when the copy is a move and the destroy is gone
  abbrev pub moved_insts : List Inst
  moved_insts = s.front ++ move_of s.copy ∷ (s.middle ++ s.back)

  pub insts_moved : (moved_block p.index last s.block).insts ≡ moved_insts
  insts_moved =
      ap (λ xs. remove (changed_at p.index move_of xs) last) s.insts
      ∙ ap (λ n. remove (changed_at n move_of (s.front ++ s.copy ∷ (s.middle ++ s.destroy ∷ s.back))) last) (sym s.at_copy)
      ∙ ap (λ xs. remove xs last) (changed_behind move_of s.front s.copy (s.middle ++ s.destroy ∷ s.back))
      ∙ ap (λ xs. remove xs last) (sym (append_assoc s.front (move_of s.copy ∷ s.middle) (s.destroy ∷ s.back)))
      ∙ ap (remove ((s.front ++ move_of s.copy ∷ s.middle) ++ s.destroy ∷ s.back)) (sym size)
      ∙ removed (s.front ++ move_of s.copy ∷ s.middle) s.destroy s.back
      ∙ append_assoc s.front (move_of s.copy ∷ s.middle) s.back
    where
      size : length (s.front ++ move_of s.copy ∷ s.middle) ≡ last
      size = length-append s.front (move_of s.copy ∷ s.middle) ∙ s.at_destroy
