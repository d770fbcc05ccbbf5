-- The blocks of a function in which a copy became a move, and its items, against those of the function itself.
use Rattle.std.proofs.Common.{◌≡◌, ◌≢◌, ◌⊎◌, inl, inr, ℕ, zero, suc, ◌+◌, ◌<◌, List, [], ◌∷◌, ◌++◌, length, map, refl, sym, ap, ◌∙◌, subst, arith, Bool, true, false, Option, Some, None, append-nil}
use Rattle.std.specs.Prelude.{option_map}
use Rattle.std.specs.List.{remove, slice_get}
use Rattle.std.proofs.lemmas.Bool.{cases_eq}
use Rattle.std.proofs.lemmas.Option.{none-some, same_Some}
use Rattle.copy_pairing_model.specs.Copies.{Copies, Destroys, IsCopy, IsDestroy}
use Rattle.copy_pairing_model.specs.Rewritten.{changed_at, moved, moved_block, with_op}
use Rattle.instruction_table.specs.declared.op.Op.TheVariants as op
use Rattle.sil_cfg_items.specs.Items.{arg_value, taken_along_in, taken_in}
use Rattle.sil_cfg_items.specs.Parts.{args_behind, edge_in, inst_at, inst_in, results_in, terminator_in, terminator_of}
use Rattle.sil_cfg_items.specs.Roles.{taken_by}
use Rattle.numbered_form.specs.Insts.{insts_of}
use Rattle.sil_ast.specs.Blocks.{args_in, args_of}
use Rattle.sil_ast.specs.declared.function.Block.{Block}
use Rattle.sil_ast.specs.declared.function.Function.{Function}
use Rattle.sil_ast.specs.declared.inst.Edge as edge
use Rattle.sil_ast.specs.declared.inst.Inst as inst
use Rattle.sil_ast.specs.declared.place.EdgeId.{EdgeId}
use Rattle.sil_ast.specs.declared.place.PointId.{PointId}
use Rattle.sil_ast.specs.declared.place.ValueId.{ValueId}
use Rattle.sil_cfg.specs.Items.{ends_function, entry_of, exit_of, insts_from, items_in, point_at, targets_in}
use Rattle.sil_cfg.specs.Returns.{returns_in}
use Rattle.sil_cfg.specs.declared.item.Item.{Item}
use Rattle.sil_cfg.specs.declared.item.Item.TheVariants.{Edge, Entry, Exit, Inst}
use Rattle.copy_pairing_acceptance.specs.MovedMemory.inner.Items.{ArePointsFrom, Cut, IsGone, IsMoved, IsSame, PointFrom, became, gone, moved as moves, none, same, stood}
use Rattle.copy_pairing_acceptance.proofs.MovedMemory.ChangedLists.{IsChangedOf, changed_elsewhere, changed_there, from_changed, from_removed}

pub cut_append : {f other : Function} {c v : ValueId} {a b x y : List Item} → Cut f other c v a b → Cut f other c v x y → Cut f other c v (a ++ x) (b ++ y)
cut_append none k = k
cut_append (same i j h r) k = same i j h (cut_append r k)
cut_append (moves i j h r) k = moves i j h (cut_append r k)
cut_append (gone i h r) k = gone i h (cut_append r k)

module _ (f : Function) (p : PointId) (c v : ValueId) (last : ℕ) (copy : IsCopy f p c v) (destroy : IsDestroy f (point_at p.block.0 last) v) (behind : p.index < last)
    (empty : destroy.inst.results ≡ []) where
  abbrev f' : Function
  f' = moved p last f

  abbrev changed : Block → Block
  changed = moved_block p.index last

  -- what is read of a block alike is read alike of the function
  by_block : {A : Type 0} (read : Option Block → A) → ((block : Block) → read (Some (changed block)) ≡ read (Some block)) → (b : ℕ)
      → read (slice_get f'.blocks b) ≡ read (slice_get f.blocks b)
  by_block read alike b = at (cases_eq b p.block.0)
    where
      own : (o : Option Block) → read (option_map changed o) ≡ read o
      own None = refl
      own (Some block) = alike block

      at : (b ≡ p.block.0) ⊎ (b ≢ p.block.0) → read (slice_get f'.blocks b) ≡ read (slice_get f.blocks b)
      at (inl e) =
          ap (λ n. read (slice_get f'.blocks n)) e ∙ ap read (changed_there changed p.block.0 f.blocks) ∙ own (slice_get f.blocks p.block.0)
          ∙ ap (λ n. read (slice_get f.blocks n)) (sym e)
      at (inr ne) = ap read (changed_elsewhere changed p.block.0 b f.blocks ne)

  pub args_same : (b : ℕ) → args_of f' b ≡ args_of f b
  args_same b = by_block args_in (λ block. refl) b

  pub terminator_same : (b : ℕ) → terminator_of f' b ≡ terminator_of f b
  terminator_same b = by_block terminator_in (λ block. refl) b

  pub targets_same : (b : ℕ) → targets_in (slice_get f'.blocks b) ≡ targets_in (slice_get f.blocks b)
  targets_same b = by_block targets_in (λ block. refl) b

  returns_same : (b : ℕ) → returns_in (slice_get f'.blocks b) ≡ returns_in (slice_get f.blocks b)
  returns_same b = by_block returns_in (λ block. refl) b

  -- ---- items

  entry_same : IsSame f f' c v Entry Entry
  entry_same = record { inst = refl; taken = refl; defined = ap (map arg_value) (args_same 0); returns = refl }

  inst_same : (q r : PointId) → inst_at f' r ≡ inst_at f q → IsSame f f' c v (Inst q) (Inst r)
  inst_same q r e = record {
    inst = e;
    taken = ap (λ o. taken_in o ++ []) e;
    defined = ap (λ o. results_in o ++ []) e;
    returns = refl;
  }

  exit_same : (q r : PointId) → q.block.0 ≡ r.block.0 → IsSame f f' c v (Exit q) (Exit r)
  exit_same q r e =
      let here : terminator_of f' r.block.0 ≡ terminator_of f q.block.0 = terminator_same r.block.0 ∙ ap (terminator_of f) (sym e) in
      record {
        inst = here;
        taken = ap (λ o. taken_in o ++ []) here;
        defined = refl;
        returns = returns_same r.block.0 ∙ ap (λ b. returns_in (slice_get f.blocks b)) (sym e);
      }

  args_behind_same : (o : Option edge.Edge) → args_behind f' o ≡ args_behind f o
  args_behind_same None = refl
  args_behind_same (Some e) = args_same e.block.0

  pub edge_same : (e : EdgeId) → IsSame f f' c v (Edge e) (Edge e)
  edge_same e =
      let here : terminator_of f' e.block.0 ≡ terminator_of f e.block.0 = terminator_same e.block.0 in
      record {
        inst = here;
        taken = ap (λ o. taken_in o ++ taken_along_in (edge_in o e.index)) here;
        defined = ap (λ o. map arg_value (args_behind f' (edge_in o e.index))) here ∙ ap (map arg_value) (args_behind_same (edge_in (terminator_of f e.block.0) e.index));
        returns = refl;
      }

  copy_moved : (q r : PointId) (i : inst.Inst) → Copies i c v → inst_at f q ≡ Some i → inst_at f' r ≡ Some (with_op op.MoveValue i) → IsMoved f f' c v (Inst q) (Inst r)
  copy_moved q r i copies was now = record {
    copy = i;
    copies = copies;
    was = was;
    now = now;
    took = ap (λ o. taken_in o ++ []) was ∙ append-nil (taken_by i);
    takes = ap (λ o. taken_in o ++ []) now ∙ append-nil (taken_by (with_op op.MoveValue i));
    defined = ap (λ o. results_in o ++ []) now ∙ sym (ap (λ o. results_in o ++ []) was);
    stays = refl;
    returns = refl;
  }

  destroy_gone : (q : PointId) (i : inst.Inst) → Destroys i v → i.results ≡ [] → inst_at f q ≡ Some i → IsGone f f' c v (Inst q)
  destroy_gone q i destroys bare was = record {
    destroy = i;
    destroys = destroys;
    was = was;
    took = ap (λ o. taken_in o ++ []) was ∙ append-nil (taken_by i);
    defined = ap (λ o. results_in o ++ []) was ∙ ap (λ vs. vs ++ []) bare;
    stays = refl;
  }

  -- ---- blocks

  -- from an index on, a function's block has just these instructions
  abbrev HasFrom : Function → ℕ → ℕ → List inst.Inst → Type 0
  HasFrom g b j xs = (n : ℕ) → inst_at g (point_at b (j + n)) ≡ slice_get xs n

  has_first : (g : Function) (b j : ℕ) (x : inst.Inst) (xs : List inst.Inst) → HasFrom g b j (x ∷ xs) → inst_at g (point_at b j) ≡ Some x
  has_first g b j x xs h = let e : j ≡ j + 0 = omega arith in ap (λ n. inst_at g (point_at b n)) e ∙ h 0

  has_more : (g : Function) (b j : ℕ) (x : inst.Inst) (xs : List inst.Inst) → HasFrom g b j (x ∷ xs) → HasFrom g b (suc j) xs
  has_more g b j x xs h n = let e : suc j + n ≡ j + suc n = omega arith in ap (λ k. inst_at g (point_at b k)) e ∙ h (suc n)

  module _ (b : ℕ) (end end' : List Item) (ends : Cut f f' c v end end') where
    -- instructions that stay
    stays_cut : (j k : ℕ) (xs : List inst.Inst) → HasFrom f b j xs → HasFrom f' b k xs → Cut f f' c v (insts_from b j xs ++ end) (insts_from b k xs ++ end')
    stays_cut j k [] h h' = ends
    stays_cut j k (x ∷ xs) h h' =
        same (Inst (point_at b j)) (Inst (point_at b k)) (inst_same (point_at b j) (point_at b k) (has_first f' b k x xs h' ∙ sym (has_first f b j x xs h)))
        (stays_cut (suc j) (suc k) xs (has_more f b j x xs h) (has_more f' b k x xs h'))

    -- and one of them goes
    gone_cut : (j n : ℕ) (xs : List inst.Inst) → HasFrom f b j xs → HasFrom f' b j (remove xs n) → slice_get xs n ≡ Some destroy.inst
        → Cut f f' c v (insts_from b j xs ++ end) (insts_from b j (remove xs n) ++ end')
    gone_cut j n [] h h' at = absurd (none-some destroy.inst at)
    gone_cut j zero (x ∷ xs) h h' at =
        gone (Inst (point_at b j)) (destroy_gone (point_at b j) destroy.inst destroy.destroys empty (has_first f b j x xs h ∙ at)) (stays_cut (suc j) j xs (has_more f b j x xs h) h')
    gone_cut j (suc n) (x ∷ xs) h h' at =
        same (Inst (point_at b j)) (Inst (point_at b j))
        (inst_same (point_at b j) (point_at b j) (has_first f' b j x (remove xs n) h' ∙ sym (has_first f b j x xs h)))
        (gone_cut (suc j) n xs (has_more f b j x xs h) (has_more f' b j x (remove xs n) h') at)

    -- and one before it is changed
    changed_cut : (j k n : ℕ) (xs : List inst.Inst) → k < n → HasFrom f b j xs → HasFrom f' b j (remove (changed_at k (with_op op.MoveValue) xs) n)
        → slice_get xs k ≡ Some copy.inst → slice_get xs n ≡ Some destroy.inst
        → Cut f f' c v (insts_from b j xs ++ end) (insts_from b j (remove (changed_at k (with_op op.MoveValue) xs) n) ++ end')
    changed_cut j k n [] lt h h' at there = absurd (none-some copy.inst at)
    changed_cut j k zero (x ∷ xs) lt h h' at there = absurd (omega arith)
    changed_cut j zero (suc n) (x ∷ xs) lt h h' at there =
        let now : inst_at f' (point_at b j) ≡ Some (with_op op.MoveValue copy.inst) =
        has_first f' b j (with_op op.MoveValue x) (remove xs n) h' ∙ ap (λ y. Some (with_op op.MoveValue y)) (same_Some x copy.inst at) in
        moves (Inst (point_at b j)) (Inst (point_at b j))
        (copy_moved (point_at b j) (point_at b j) copy.inst copy.copies (has_first f b j x xs h ∙ at) now)
        (gone_cut (suc j) n xs (has_more f b j x xs h) (has_more f' b j (with_op op.MoveValue x) (remove xs n) h') there)
    changed_cut j (suc k) (suc n) (x ∷ xs) lt h h' at there =
        let rest : List inst.Inst = remove (changed_at k (with_op op.MoveValue) xs) n in
        same (Inst (point_at b j)) (Inst (point_at b j))
        (inst_same (point_at b j) (point_at b j) (has_first f' b j x rest h' ∙ sym (has_first f b j x xs h)))
        (changed_cut (suc j) k n xs (omega arith) (has_more f b j x xs h) (has_more f' b j x rest h') at there)

  exit_cut : (q r : PointId) (leaves : Bool) → q.block.0 ≡ r.block.0 → Cut f f' c v (exit_of q leaves) (exit_of r leaves)
  exit_cut q r true e = same (Exit q) (Exit r) (exit_same q r e) none
  exit_cut q r false e = none

  first_cut : (b : ℕ) → Cut f f' c v (entry_of b) (entry_of b)
  first_cut zero = same Entry Entry entry_same none
  first_cut (suc b) = none

  whole : (g : Function) (b : ℕ) (block : Block) → slice_get g.blocks b ≡ Some block → HasFrom g b 0 block.insts
  whole g b block e n = let k : 0 + n ≡ n = omega arith in ap (λ n. inst_at g (point_at b n)) k ∙ ap (λ o. inst_in o n) e

  -- the items of a block
  pub block_cut : (b : ℕ) → Cut f f' c v (items_in b (slice_get f.blocks b)) (items_in b (slice_get f'.blocks b))
  block_cut b = at (cases_eq b p.block.0)
    where
      stays : (o : Option Block) → slice_get f.blocks b ≡ o → slice_get f'.blocks b ≡ o → Cut f f' c v (items_in b o) (items_in b o)
      stays None e e' = none
      stays (Some block) e e' =
          let q : PointId = point_at b (length block.insts) in
          let leaves : Bool = ends_function block.terminator.op in
          cut_append (first_cut b)
          (stays_cut b (exit_of q leaves) (exit_of q leaves) (exit_cut q q leaves refl) 0 0 block.insts (whole f b block e) (whole f' b block e'))

      changes : (o : Option Block) → b ≡ p.block.0 → slice_get f.blocks b ≡ o → slice_get f'.blocks b ≡ option_map changed o → Cut f f' c v (items_in b o) (items_in b (option_map changed o))
      changes None is e e' = none
      changes (Some block) is e e' =
          let leaves : Bool = ends_function block.terminator.op in
          let there : Some block ≡ slice_get f.blocks p.block.0 = sym e ∙ ap (slice_get f.blocks) is in
          let q : PointId = point_at b (length block.insts) in
          let r : PointId = point_at b (length (changed block).insts) in
          cut_append (first_cut b)
          (changed_cut b (exit_of q leaves) (exit_of r leaves) (exit_cut q r leaves refl) 0 p.index last block.insts behind
          (whole f b block e) (whole f' b (changed block) e')
          (ap (λ o. inst_in o p.index) there ∙ copy.stands) (ap (λ o. inst_in o last) there ∙ destroy.stands))

      at : (b ≡ p.block.0) ⊎ (b ≢ p.block.0) → Cut f f' c v (items_in b (slice_get f.blocks b)) (items_in b (slice_get f'.blocks b))
      at (inl is) =
          let now : slice_get f'.blocks b ≡ option_map changed (slice_get f.blocks b) =
          ap (slice_get f'.blocks) is ∙ changed_there changed p.block.0 f.blocks ∙ ap (λ n. option_map changed (slice_get f.blocks n)) (sym is) in
          subst (λ o. Cut f f' c v (items_in b (slice_get f.blocks b)) (items_in b o)) (sym now) (changes (slice_get f.blocks b) is refl now)
      at (inr ne) =
          let now : slice_get f'.blocks b ≡ slice_get f.blocks b = changed_elsewhere changed p.block.0 b f.blocks ne in
          subst (λ o. Cut f f' c v (items_in b (slice_get f.blocks b)) (items_in b o)) (sym now) (stays (slice_get f.blocks b) refl now)

  -- ---- points

  pub points_from : ArePointsFrom f f' c v
  points_from n k i h = at (cases_eq n p.block.0)
    where
      inside : (o : Option Block) → slice_get f.blocks n ≡ o → n ≡ p.block.0 → option_map changed o ≡ Some h.within → PointFrom f f' c v n i
      inside None e is e' = absurd (none-some h.within e')
      inside (Some block) e is e' = by (from_changed (with_op op.MoveValue) p.index back.0 block.insts (block.terminator ∷ []) i back.1)
        where
          same_block : changed block ≡ h.within
          same_block = same_Some (changed block) h.within e'

          back : (j : ℕ) × (slice_get (changed_at p.index (with_op op.MoveValue) block.insts ++ block.terminator ∷ []) j ≡ Some i)
          back = from_removed last k (changed_at p.index (with_op op.MoveValue) block.insts) (block.terminator ∷ []) i
              (ap (λ x. slice_get (insts_of x) k) same_block ∙ h.is_inst)

          by : (slice_get (block.insts ++ block.terminator ∷ []) back.0 ≡ Some i) ⊎ IsChangedOf (with_op op.MoveValue) p.index block.insts i → PointFrom f f' c v n i
          by (inl there) = stood back.0 (record { within = block; is_block = e; is_inst = there })
          by (inr r) =
              let there : Some block ≡ slice_get f.blocks p.block.0 = sym e ∙ ap (slice_get f.blocks) is in
              let here : r.0 ≡ copy.inst = same_Some r.0 copy.inst (sym r.1 ∙ ap (λ o. inst_in o p.index) there ∙ copy.stands) in
              became copy.inst copy.copies (r.2 ∙ ap (with_op op.MoveValue) here)

      at : (n ≡ p.block.0) ⊎ (n ≢ p.block.0) → PointFrom f f' c v n i
      at (inl is) =
          inside (slice_get f.blocks n) refl is
          (ap (λ b. option_map changed (slice_get f.blocks b)) is ∙ sym (changed_there changed p.block.0 f.blocks) ∙ ap (slice_get f'.blocks) (sym is) ∙ h.is_block)
      at (inr ne) =
          stood k (record { within = h.within; is_block = sym (changed_elsewhere changed p.block.0 n f.blocks ne) ∙ h.is_block; is_inst = h.is_inst })
