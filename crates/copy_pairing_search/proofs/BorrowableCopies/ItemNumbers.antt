-- Each item of a function has a number in the function's graph.
use Rattle.std.proofs.Common.{◌≡◌, ℕ, zero, suc, ◌+◌, ◌<◌, List, [], ◌∷◌, ◌++◌, length, refl, sym, ap, ◌∙◌, subst, Bool, true, false, Option, Some, None, append_assoc, arith}
use Rattle.std.specs.Prelude.{IsSomeAnd, IsTrue}
use Rattle.std.specs.List.{slice_get}
use Rattle.sil_ast.specs.declared.function.Block.{Block}
use Rattle.sil_ast.specs.declared.function.Function.{Function}
use Rattle.sil_ast.specs.declared.inst.Inst as inst
use Rattle.sil_ast.specs.declared.place.PointId.{PointId}
use Rattle.sil_cfg.specs.declared.item.Item.{Item}
use Rattle.sil_cfg.specs.declared.item.Item.TheVariants.{Entry, Inst, Edge, Exit}
use Rattle.sil_cfg.specs.Flow.{edge_item, items_at, numbered}
use Rattle.sil_cfg.specs.Items.{IsExit, IsItem, ends_function, entry_of, exit_of, insts_from, items_in, own_items, point_at}
use Rattle.sil_cfg.specs.Layout.{Layout, item_at}
use Rattle.sil_cfg.specs.inner.Build.{AreItems, IsGraphOf}

numbered_in : (kinds : List Item) (numbers : List ℕ) (front rest : List Item) (x : Item) → AreItems kinds numbers (front ++ x ∷ rest) → (i : ℕ) × (slice_get kinds i ≡ Some x)
numbered_in kinds [] [] rest x h = absurd h
numbered_in kinds (i ∷ numbers) [] rest x h = (i, h.0)
numbered_in kinds [] (y ∷ front) rest x h = absurd h
numbered_in kinds (i ∷ numbers) (y ∷ front) rest x h = numbered_in kinds numbers front rest x h.1

-- an item stands among these
record StandsIn (items : List Item) (x : Item) : Type 0 where
  front : List Item
  rest : List Item
  parts : items ≡ front ++ x ∷ rest

inst_stands : (b k : ℕ) (insts : List inst.Inst) (j : ℕ) → j < length insts → StandsIn (insts_from b k insts) (Inst (point_at b (k + j)))
inst_stands b k [] j lt = absurd (omega arith)
inst_stands b k (x ∷ insts) zero lt =
    let e : k ≡ k + 0 = omega arith in
    record { front = []; rest = insts_from b (suc k) insts; parts = ap (λ n. let v : List Item = Inst (point_at b n) ∷ insts_from b (suc k) insts in v) e }
inst_stands b k (x ∷ insts) (suc j) lt =
    let e : suc k + j ≡ k + suc j = omega arith in
    let r : StandsIn (insts_from b (suc k) insts) (Inst (point_at b (k + suc j))) =
    subst (λ n. StandsIn (insts_from b (suc k) insts) (Inst (point_at b n))) e (inst_stands b (suc k) insts j (omega arith)) in
    record { front = Inst (point_at b k) ∷ r.front; rest = r.rest; parts = ap (λ v. Inst (point_at b k) ∷ v) r.parts }

behind : (first items : List Item) (x : Item) → StandsIn items x → StandsIn (first ++ items) x
behind first items x h = record { front = first ++ h.front; rest = h.rest; parts = ap (λ v. first ++ v) h.parts ∙ sym (append_assoc first h.front (x ∷ h.rest)) }

before : (items last : List Item) (x : Item) → StandsIn items x → StandsIn (items ++ last) x
before items last x h = record { front = h.front; rest = h.rest ++ last; parts = ap (λ v. v ++ last) h.parts ∙ append_assoc h.front (x ∷ h.rest) last }

exit_stands : (p : PointId) (ends : Bool) → IsTrue ends → StandsIn (exit_of p ends) (Exit p)
exit_stands p true h = record { front = []; rest = []; parts = refl }
exit_stands p false h = absurd (let wrong : false ≡ true = h in cc)

first_block : (blocks : List Block) → 0 < length blocks → (block : Block) × (slice_get blocks 0 ≡ Some block)
first_block [] lt = absurd (omega arith)
first_block (block ∷ blocks) lt = (block, refl)

module _ (g : Layout) (f : Function) (is : IsGraphOf g f) where
  stands_numbered : (b : ℕ) (block : Block) (x : Item) → slice_get f.blocks b ≡ Some block → StandsIn (own_items b block) x → (i : ℕ) × (item_at g i ≡ Some x)
  stands_numbered b block x there h =
      numbered_in g.kinds (items_at (numbered g) b) h.front h.rest x (subst (AreItems g.kinds (items_at (numbered g) b)) (ap (items_in b) there ∙ h.parts) (is.items b))

  entry_numbered : 0 < length f.blocks → (i : ℕ) × (item_at g i ≡ Some Entry)
  entry_numbered body =
      let h = first_block f.blocks body in
      let rest : List Item = insts_from 0 0 h.0.insts ++ exit_of (point_at 0 (length h.0.insts)) (ends_function h.0.terminator.op) in
      stands_numbered 0 h.0 Entry h.1 (record { front = []; rest = rest; parts = refl })

  inst_numbered : (p : PointId) (o : Option Block) → slice_get f.blocks p.block.0 ≡ o → IsSomeAnd o (λ block. p.index < length block.insts) → (i : ℕ) × (item_at g i ≡ Some (Inst p))
  inst_numbered p None there h = absurd h
  inst_numbered p (Some block) there h =
      let b = p.block.0 in
      let exit : List Item = exit_of (point_at b (length block.insts)) (ends_function block.terminator.op) in
      let zero_up : 0 + p.index ≡ p.index = omega arith in
      let here : StandsIn (insts_from b 0 block.insts) (Inst p) =
      subst (λ n. StandsIn (insts_from b 0 block.insts) (Inst (point_at b n))) zero_up (inst_stands b 0 block.insts p.index h) in
      stands_numbered b block (Inst p) there (behind (entry_of b) (insts_from b 0 block.insts ++ exit) (Inst p) (before (insts_from b 0 block.insts) exit (Inst p) here))

  exit_numbered : (p : PointId) (o : Option Block) → slice_get f.blocks p.block.0 ≡ o → IsSomeAnd o (IsExit p) → (i : ℕ) × (item_at g i ≡ Some (Exit p))
  exit_numbered p None there h = absurd h
  exit_numbered p (Some block) there h =
      let b = p.block.0 in
      let exit : List Item = exit_of (point_at b (length block.insts)) (ends_function block.terminator.op) in
      let here : StandsIn exit (Exit p) =
      subst (λ n. StandsIn exit (Exit (point_at b n))) (sym h.0) (exit_stands (point_at b (length block.insts)) (ends_function block.terminator.op) h.1) in
      stands_numbered b block (Exit p) there (behind (entry_of b) (insts_from b 0 block.insts ++ exit) (Exit p) (behind (insts_from b 0 block.insts) exit (Exit p) here))

  pub item_numbered : (item : Item) → IsItem f item → (i : ℕ) × (item_at g i ≡ Some item)
  item_numbered Entry h = entry_numbered h
  item_numbered (Inst p) h = inst_numbered p (slice_get f.blocks p.block.0) refl h
  item_numbered (Edge e) h = (edge_item (numbered g) e, is.edges e h)
  item_numbered (Exit p) h = exit_numbered p (slice_get f.blocks p.block.0) refl h
