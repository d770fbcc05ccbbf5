-- Each item of a function whose copy becomes a move is left, but for the copy and the gone destroy.
use Rattle.std.proofs.Common.{◌≡◌, ◌≢◌, ◌⊎◌, inl, inr, ℕ, suc, ◌+◌, ◌-◌, ◌<◌, ◌≤◌, length, refl, sym, ap, ap₂, ◌∙◌, subst, arith, Option}
use Rattle.std.specs.Prelude.{IsSomeAnd, slice_get}
use Rattle.std.proofs.lemmas.Bool.{cases_eq, cases_lt}
use Rattle.sil_ast.specs.declared.function.Block.{Block}
use Rattle.sil_ast.specs.declared.function.Function.{Function}
use Rattle.sil_ast.specs.declared.place.PointId.{PointId}
use Rattle.sil_ast.specs.declared.place.ValueId.{ValueId}
use Rattle.sil_cfg.specs.Items.{IsExit, IsItem, point_at}
use Rattle.sil_cfg.specs.declared.item.Item.{Item}
use Rattle.sil_cfg.specs.declared.item.Item.TheVariants as item
use Rattle.copy_pairing_model.specs.Rewritten.{moved_block}
use Rattle.copy_pairing_acceptance.specs.MovedFunctions.inner.Structure.{old_item, old_point, stood_at}
use Rattle.copy_pairing_acceptance.proofs.MovedFunctions.Items.{gone, old_edge, size_before, size_behind}
use Rattle.copy_pairing_acceptance.proofs.MovedFunctions.Lists.{changed_length, stood_before, stood_behind}
use Rattle.copy_pairing_acceptance.proofs.MovedFunctions.Places.{after, block_elsewhere, block_there, new_block, old_elsewhere, old_here}
use Rattle.copy_pairing_acceptance.proofs.MovedFunctions.Split.{IsSplit}
use Rattle.copy_pairing_acceptance.proofs.RewritingOrder.WalksBack.{new_edge}

pub apart_by_index : (x y : PointId) → x.index ≢ y.index → item.Inst x ≢ item.Inst y
apart_by_index x y ne e = ne (ap index e)
  where
    index : Item → ℕ
    index item.Entry = 0
    index (item.Inst q) = q.index
    index (item.Edge q) = 0
    index (item.Exit q) = 0

pub apart_by_block : (x y : PointId) → x.block.0 ≢ y.block.0 → item.Inst x ≢ item.Inst y
apart_by_block x y ne e = ne (ap block e)
  where
    block : Item → ℕ
    block item.Entry = 0
    block (item.Inst q) = q.block.0
    block (item.Edge q) = 0
    block (item.Exit q) = 0

abbrev Within : Option Block → ℕ → Type 0
Within o k = IsSomeAnd o (λ block. k < length block.insts)

module _ {f : Function} {p : PointId} {last : ℕ} {c v : ValueId} (s : IsSplit f p last c v) where
  pub copy_first : p.index < last
  copy_first =
      let first : length s.front ≡ p.index = s.at_copy in
      let second : length s.front + suc (length s.middle) ≡ last = s.at_destroy in
      omega arith

  -- the copy, the destroy, or another item
  pub place_of : (i : Item) → (i ≡ item.Inst p) ⊎ ((i ≡ gone s) ⊎ ((i ≢ item.Inst p) × (i ≢ gone s)))
  place_of item.Entry = inr (inr (λ e. cc, λ e. cc))
  place_of (item.Edge x) = inr (inr (λ e. cc, λ e. cc))
  place_of (item.Exit x) = inr (inr (λ e. cc, λ e. cc))
  place_of (item.Inst q) = at (cases_eq q.block.0 p.block.0) (cases_eq q.index p.index) (cases_eq q.index last)
    where
      at : (q.block.0 ≡ p.block.0) ⊎ (q.block.0 ≢ p.block.0) → (q.index ≡ p.index) ⊎ (q.index ≢ p.index) → (q.index ≡ last) ⊎ (q.index ≢ last)
          → (item.Inst q ≡ item.Inst p) ⊎ ((item.Inst q ≡ gone s) ⊎ ((item.Inst q ≢ item.Inst p) × (item.Inst q ≢ gone s)))
      at (inl b) (inl k) z = inl (ap₂ (λ x y. item.Inst (point_at x y)) b k)
      at (inl b) (inr k) (inl z) = inr (inl (ap₂ (λ x y. item.Inst (point_at x y)) b z))
      at (inl b) (inr k) (inr z) = inr (inr (apart_by_index q p k, apart_by_index q (point_at p.block.0 last) z))
      at (inr b) k z = inr (inr (apart_by_block q p b, apart_by_block q (point_at p.block.0 last) b))

  -- where it is now
  pub record IsLeft (i : Item) : Type 0 where
    pub now : Item
    pub there : IsItem (after s) now
    pub apart : now ≢ item.Inst p
    pub was : old_item p last now ≡ i

  pub left : (i : Item) → IsItem f i → i ≢ item.Inst p → i ≢ gone s → IsLeft i
  left item.Entry h a b = record {
    now = item.Entry;
    there = subst (λ k. 0 < k) (sym (changed_length (moved_block p.index last) p.block.0 f.blocks)) h;
    apart = λ e. cc;
    was = refl;
  }
  left (item.Edge x) h a b = record { now = item.Edge x; there = new_edge s x h; apart = λ e. cc; was = refl }
  left (item.Inst q) h a b = at (cases_eq q.block.0 p.block.0)
    where
      at : (q.block.0 ≡ p.block.0) ⊎ (q.block.0 ≢ p.block.0) → IsLeft (item.Inst q)
      at (inr ne) = record {
        now = item.Inst q;
        there = subst (λ o. Within o q.index) (sym (block_elsewhere s q.block.0 ne)) h;
        apart = a;
        was = ap (λ x. item.Inst x) (old_elsewhere s q ne);
      }
      at (inl e) = by (cases_lt q.index last)
        where
          within : q.index < length s.block.insts
          within = subst (λ o. Within o q.index) (ap (slice_get f.blocks) e ∙ s.there) h

          is_there : (k : ℕ) → k < length (new_block s).insts → Within (slice_get (after s).blocks q.block.0) k
          is_there k lt = subst (λ o. Within o k) (sym (ap (slice_get (after s).blocks) e ∙ block_there s)) lt

          by : (q.index < last) ⊎ (last ≤ q.index) → IsLeft (item.Inst q)
          by (inl lt) = record {
            now = item.Inst q;
            there = is_there q.index (let size : last ≤ length (new_block s).insts = size_behind s in omega arith);
            apart = a;
            was = ap (λ x. item.Inst x) (old_here s q e ∙ ap (point_at q.block.0) (stood_before last q.index lt));
          }
          by (inr le) = behind (cases_eq q.index last)
            where
              behind : (q.index ≡ last) ⊎ (q.index ≢ last) → IsLeft (item.Inst q)
              behind (inl z) = absurd (b (ap₂ (λ x y. item.Inst (point_at x y)) e z))
              behind (inr z) =
                  let first : p.index < last = copy_first in
                  let size : suc (length (new_block s).insts) ≡ length s.block.insts = size_before s in
                  let lt = within in
                  let back : suc (q.index - 1) ≡ q.index = omega arith in
                  let more : last ≤ q.index - 1 = omega arith in
                  record {
                    now = item.Inst (point_at q.block.0 (q.index - 1));
                    there = is_there (q.index - 1) (omega arith);
                    apart = apart_by_index (point_at q.block.0 (q.index - 1)) p (λ x. let no : ⊥ = omega arith in no);
                    was = ap (λ x. item.Inst x) (old_here s (point_at q.block.0 (q.index - 1)) e ∙ ap (point_at q.block.0) (stood_behind last (q.index - 1) more ∙ back));
                  }
  left (item.Exit q) h a b = at (cases_eq q.block.0 p.block.0)
    where
      at : (q.block.0 ≡ p.block.0) ⊎ (q.block.0 ≢ p.block.0) → IsLeft (item.Exit q)
      at (inr ne) = record {
        now = item.Exit q;
        there = subst (λ o. IsSomeAnd o (IsExit q)) (sym (block_elsewhere s q.block.0 ne)) h;
        apart = λ e. cc;
        was = ap (λ x. item.Exit x) (old_elsewhere s q ne);
      }
      at (inl e) =
          let here : IsExit q s.block = subst (λ o. IsSomeAnd o (IsExit q)) (ap (slice_get f.blocks) e ∙ s.there) h in
          let k : ℕ = length (new_block s).insts in
          record {
            now = item.Exit (point_at q.block.0 k);
            there = subst (λ o. IsSomeAnd o (IsExit (point_at q.block.0 k))) (sym (ap (slice_get (after s).blocks) e ∙ block_there s)) (refl, here.1);
            apart = λ x. cc;
            was = ap (λ x. item.Exit x) (old_here s (point_at q.block.0 k) e ∙ ap (point_at q.block.0) (stood_behind last k (size_behind s) ∙ size_before s ∙ sym here.0));
          }

  -- and each that is left stood there
  pub stood : (i : Item) → IsItem (after s) i → i ≢ item.Inst p → IsItem f (old_item p last i)
  stood item.Entry h ne = subst (λ k. 0 < k) (changed_length (moved_block p.index last) p.block.0 f.blocks) h
  stood (item.Edge x) h ne = old_edge s x h
  stood (item.Inst q) h ne = at (cases_eq q.block.0 p.block.0)
    where
      at : (q.block.0 ≡ p.block.0) ⊎ (q.block.0 ≢ p.block.0) → IsItem f (item.Inst (old_point p last q))
      at (inr other) = subst (λ x. IsItem f (item.Inst x)) (sym (old_elsewhere s q other)) (subst (λ o. Within o q.index) (block_elsewhere s q.block.0 other) h)
      at (inl e) =
          subst (λ x. IsItem f (item.Inst x)) (sym (old_here s q e)) (subst (λ o. Within o (stood_at last q.index)) (sym (ap (slice_get f.blocks) e ∙ s.there)) (by (cases_lt q.index last)))
        where
          within : q.index < length (new_block s).insts
          within = subst (λ o. Within o q.index) (ap (slice_get (after s).blocks) e ∙ block_there s) h

          by : (q.index < last) ⊎ (last ≤ q.index) → stood_at last q.index < length s.block.insts
          by (inl lt) =
              let size : suc (length (new_block s).insts) ≡ length s.block.insts = size_before s in
              let is : stood_at last q.index ≡ q.index = stood_before last q.index lt in
              let w = within in
              omega arith
          by (inr le) =
              let size : suc (length (new_block s).insts) ≡ length s.block.insts = size_before s in
              let is : stood_at last q.index ≡ suc q.index = stood_behind last q.index le in
              let w = within in
              omega arith
  stood (item.Exit q) h ne = at (cases_eq q.block.0 p.block.0)
    where
      at : (q.block.0 ≡ p.block.0) ⊎ (q.block.0 ≢ p.block.0) → IsItem f (item.Exit (old_point p last q))
      at (inr other) = subst (λ x. IsItem f (item.Exit x)) (sym (old_elsewhere s q other)) (subst (λ o. IsSomeAnd o (IsExit q)) (block_elsewhere s q.block.0 other) h)
      at (inl e) =
          let here : IsExit q (new_block s) = subst (λ o. IsSomeAnd o (IsExit q)) (ap (slice_get (after s).blocks) e ∙ block_there s) h in
          let size : suc (length (new_block s).insts) ≡ length s.block.insts = size_before s in
          let behind : last ≤ length (new_block s).insts = size_behind s in
          let index : q.index ≡ length (new_block s).insts = here.0 in
          let is : stood_at last q.index ≡ suc q.index = stood_behind last q.index (omega arith) in
          let k : ℕ = stood_at last q.index in
          subst (λ x. IsItem f (item.Exit x)) (sym (old_here s q e))
          (subst (λ o. IsSomeAnd o (IsExit (point_at q.block.0 k))) (sym (ap (slice_get f.blocks) e ∙ s.there)) (let same : k ≡ length s.block.insts = omega arith in same, here.1))
