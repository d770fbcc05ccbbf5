-- Where the items of a point stand among those of its block.
use Rattle.std.proofs.Common.{◌≡◌, ◌≢◌, ℕ, zero, suc, ◌+◌, ◌<◌, ◌≤◌, List, [], ◌∷◌, ◌++◌, length, map, refl, sym, ap, ◌∙◌, subst, arith, Bool, true, false, Option, Some, None, slice_get}
use Rattle.std.specs.Prelude.{All, unwrap_or}
use Rattle.std.proofs.lemmas.List.{length-map}
use Rattle.std.proofs.lemmas.List.Elements.{All-get_or}
use Rattle.std.proofs.lemmas.Option.{get_or_from_slice_get, none-some, same_Some, slice_get_within}
use Rattle.sil_ast.specs.declared.function.Block.{Block}
use Rattle.sil_ast.specs.declared.inst.Edge.{Edge}
use Rattle.sil_ast.specs.declared.inst.Inst.{Inst}
use Rattle.sil_ast.specs.declared.place.PointId.{PointId}
use Rattle.sil_cfg.specs.Items.{ends_function, exit_of, insts_from, items_in, last_in, own_items, point_at, targets_in}
use Rattle.sil_cfg.specs.declared.item.Item.{Item}
use Rattle.sil_cfg.specs.declared.item.Item.TheVariants as item
use Rattle.sil_cfg_items.specs.Parts.{edge_in, inst_in, terminator_in}
use Rattle.sil_verifier_values.specs.sil_verifier_accepted.TypedGraphLaws.inner.Ready.{AvoidsEntry}
use Rattle.sil_verifier_values.specs.holder_model.Standing.{target_of}

-- how many items of the block stand before the one with this index: in the entry block the entry item too
abbrev pub count_before : ℕ → ℕ → ℕ
count_before zero k = suc k
count_before (suc b) k = k

pub count_next : (b k : ℕ) → count_before b (suc k) ≡ suc (count_before b k)
count_next zero k = refl
count_next (suc b) k = refl

pub count_first : (b : ℕ) → b ≢ 0 → count_before b 0 ≡ 0
count_first zero some = absurd (some refl)
count_first (suc b) some = refl

past_end : (insts : List Inst) (k : ℕ) → slice_get insts k ≡ None → length insts ≤ k
past_end [] k e = omega arith
past_end (x ∷ insts) zero e = absurd (none-some x (sym e))
past_end (x ∷ insts) (suc k) e = let more = past_end insts k e in omega arith

inst_there : (b j : ℕ) (insts : List Inst) (rest : List Item) (k : ℕ) (x : Inst) → slice_get insts k ≡ Some x →
    slice_get (insts_from b j insts ++ rest) k ≡ Some (item.Inst (point_at b (j + k)))
inst_there b j [] rest k x e = absurd (none-some x e)
inst_there b j (y ∷ insts) rest zero x e = let same : j ≡ j + 0 = omega arith in ap (λ n. Some (item.Inst (point_at b n))) same
inst_there b j (y ∷ insts) rest (suc k) x e =
    let same : suc j + k ≡ j + suc k = omega arith in
    inst_there b (suc j) insts rest k x e ∙ ap (λ n. Some (item.Inst (point_at b n))) same

exit_there : (b j : ℕ) (insts : List Inst) (p : PointId) → slice_get (insts_from b j insts ++ exit_of p true) (length insts) ≡ Some (item.Exit p)
exit_there b j [] p = refl
exit_there b j (x ∷ insts) p = exit_there b (suc j) insts p

insts_length : (b j : ℕ) (insts : List Inst) (p : PointId) → length (insts_from b j insts ++ exit_of p false) ≡ length insts
insts_length b j [] p = refl
insts_length b j (x ∷ insts) p = ap suc (insts_length b (suc j) insts p)

-- a block's items behind the entry item
abbrev behind_entry : ℕ → Block → Bool → List Item
behind_entry b block ends = insts_from b 0 block.insts ++ exit_of (point_at b (length block.insts)) ends

own_there : (b k : ℕ) (block : Block) → slice_get (own_items b block) (count_before b k) ≡ slice_get (behind_entry b block (ends_function block.terminator.op)) k
own_there zero k block = refl
own_there (suc b) k block = refl

own_length : (b : ℕ) (block : Block) → length (own_items b block) ≡ count_before b (length (behind_entry b block (ends_function block.terminator.op)))
own_length zero block = refl
own_length (suc b) block = refl

same_ending : (block : Block) (x : Inst) (ends : Bool) → Some block.terminator ≡ Some x → ends_function x.op ≡ ends → ends_function block.terminator.op ≡ ends
same_ending block x ends e h = ap (λ (i : Inst). ends_function i.op) (same_Some block.terminator x e) ∙ h

-- the instruction at a point
pub inst_stands : (b k : ℕ) (o : Option Block) (x : Inst) → inst_in o k ≡ Some x → slice_get (items_in b o) (count_before b k) ≡ Some (item.Inst (point_at b k))
inst_stands b k None x e = absurd (none-some x e)
inst_stands b k (Some block) x e =
    let same : 0 + k ≡ k = omega arith in
    own_there b k block ∙ inst_there b 0 block.insts (exit_of (point_at b (length block.insts)) (ends_function block.terminator.op)) k x e
    ∙ ap (λ n. Some (item.Inst (point_at b n))) same

pub inst_within : (k : ℕ) (o : Option Block) (x : Inst) → inst_in o k ≡ Some x → suc k ≤ last_in o
inst_within k None x e = absurd (none-some x e)
inst_within k (Some block) x e = let lt = slice_get_within block.insts k x e in omega arith

-- the exit at a point behind the instructions
pub exit_stands : (b k : ℕ) (o : Option Block) (x : Inst) → inst_in o k ≡ None → k ≤ last_in o → terminator_in o ≡ Some x → ends_function x.op ≡ true →
    slice_get (items_in b o) (count_before b k) ≡ Some (item.Exit (point_at b k))
exit_stands b k None x none le e ends = absurd (none-some x e)
exit_stands b k (Some block) x none le e ends =
    let past = past_end block.insts k none in
    let last : k ≡ length block.insts = omega arith in
    own_there b k block ∙ ap (λ (a : Bool). slice_get (behind_entry b block a) k) (same_ending block x true e ends)
    ∙ ap (slice_get (behind_entry b block true)) last ∙ exit_there b 0 block.insts (point_at b (length block.insts))
    ∙ ap (λ n. Some (item.Exit (point_at b n))) (sym last)

-- before an edge all items of the block stand
pub all_stand : (b k : ℕ) (o : Option Block) (x : Inst) → inst_in o k ≡ None → k ≤ last_in o → terminator_in o ≡ Some x → ends_function x.op ≡ false →
    count_before b k ≡ length (items_in b o)
all_stand b k None x none le e goes = absurd (none-some x e)
all_stand b k (Some block) x none le e goes =
    let past = past_end block.insts k none in
    let last : k ≡ length block.insts = omega arith in
    ap (count_before b) (last ∙ sym (insts_length b 0 block.insts (point_at b (length block.insts))))
    ∙ sym (own_length b block ∙ ap (λ (a : Bool). count_before b (length (behind_entry b block a))) (same_ending block x false e goes))

pub edge_there : (k : ℕ) (o : Option Block) (x : Inst) → terminator_in o ≡ Some x → k < length x.edges → k < length (targets_in o)
edge_there k None x e lt = absurd (none-some x e)
edge_there k (Some block) x e lt =
    let same : block.terminator ≡ x = same_Some block.terminator x e in
    let size : length (targets_in (Some block)) ≡ length block.terminator.edges = length-map block.terminator.edges (λ (d : Edge). d.block.0) in
    let edges : length block.terminator.edges ≡ length x.edges = ap (λ (i : Inst). length i.edges) same in
    omega arith

target_there : (edges : List Edge) (k : ℕ) → unwrap_or (slice_get (map (λ (e : Edge). e.block.0) edges) k) 0 ≡ target_of (slice_get edges k)
target_there [] k = refl
target_there (e ∷ edges) zero = refl
target_there (e ∷ edges) (suc k) = target_there edges k

-- the block to which an edge goes
pub target_same : (k : ℕ) (o : Option Block) → unwrap_or (slice_get (targets_in o) k) 0 ≡ target_of (edge_in (terminator_in o) k)
target_same k None = refl
target_same k (Some block) = target_there block.terminator.edges k

pub all_there : {X : Type 0} (P : X → Type 0) (xs : List X) (k : ℕ) (x : X) → slice_get xs k ≡ Some x → All P xs → P x
all_there P xs k x e h = subst P (get_or_from_slice_get xs k x x e) (All-get_or P xs k x (slice_get_within xs k x e) h)

some_there : {X : Type 0} (xs : List X) (k : ℕ) → k < length xs → (x : X) × (slice_get xs k ≡ Some x)
some_there [] k lt = absurd (omega arith)
some_there (x ∷ xs) zero lt = (x, refl)
some_there (x ∷ xs) (suc k) lt = some_there xs k (omega arith)

-- where no edge of the blocks goes back to the entry
pub target_avoids : (blocks : List Block) → All (λ b. All AvoidsEntry b.terminator.edges) blocks → (b k : ℕ) (x : Inst) → terminator_in (slice_get blocks b) ≡ Some x →
    k < length x.edges → target_of (edge_in (terminator_in (slice_get blocks b)) k) ≢ 0
target_avoids blocks avoid b k x e lt = at (slice_get blocks b) refl e
  where
    at : (o : Option Block) → slice_get blocks b ≡ o → terminator_in o ≡ Some x → target_of (edge_in (terminator_in o) k) ≢ 0
    at None there e = absurd (none-some x e)
    at (Some block) there e =
        let edges : length block.terminator.edges ≡ length x.edges = ap (λ (i : Inst). length i.edges) (same_Some block.terminator x e) in
        let to = some_there block.terminator.edges k (omega arith) in
        let all : All AvoidsEntry block.terminator.edges = all_there (λ (b : Block). All AvoidsEntry b.terminator.edges) blocks b block there avoid in
        let avoids : to.0.block.0 ≢ 0 = all_there AvoidsEntry block.terminator.edges k to.0 to.1 all in
        subst (λ o. target_of o ≢ 0) (sym to.1) avoids
