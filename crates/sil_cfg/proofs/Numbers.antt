-- Numbers that stand for items, while items are added.
use Rattle.std.proofs.Common.{◌≡◌, ℕ, zero, suc, ◌+◌, ◌<◌, List, [], ◌∷◌, ◌++◌, length, take, map, sym, ap, ◌∙◌, subst, inl, inr, ◌⊎◌, Some, arith, append_assoc}
use Rattle.std.specs.List.{slice_get}
use Rattle.std.proofs.lemmas.List.{append-nil, map-append}
use Rattle.std.proofs.lemmas.List.Elements.{All-push, All-nil, All-append}
use Rattle.sil_ast.specs.declared.inst.Inst as inst
use Rattle.sil_ast.specs.declared.inst.Edge as edge
use Rattle.sil_ast.specs.declared.function.Block.{Block}
use Rattle.sil_cfg.specs.declared.item.Item.{Item}
use Rattle.sil_cfg.specs.declared.item.Item.TheVariants.{Inst, Edge}
use Rattle.sil_cfg.specs.declared.layout.EdgeFlow.{EdgeFlow}
use Rattle.sil_cfg.specs.Items.{insts_from, point_at, entry_of, exit_of, ends_function, own_items}
use Rattle.sil_cfg.specs.inner.Build.{AreItems}
use Rattle.sil_cfg.specs.Flow.{edge_id}
use Rattle.sil_cfg.specs.inner.Laying.{IsItemOf, Adds, HasLaid, LaysMore, AreEdgesLaid, LaysBlock}
use Rattle.sil_cfg.proofs.Gets.{kept_get, last_get, pushed_get, take_one_more}

pub AreItems-more : (kinds more : List Item) (numbers : List ℕ) (items : List Item) → AreItems kinds numbers items → AreItems (kinds ++ more) numbers items
AreItems-more kinds more [] [] h = tt
AreItems-more kinds more [] (x ∷ items) h = absurd h
AreItems-more kinds more (i ∷ numbers) [] h = absurd h
AreItems-more kinds more (i ∷ numbers) (x ∷ items) h = (kept_get kinds more i x h.0, AreItems-more kinds more numbers items h.1)

pub AreItems-append : (kinds : List Item) (m n : List ℕ) (a b : List Item) → AreItems kinds m a → AreItems kinds n b → AreItems kinds (m ++ n) (a ++ b)
AreItems-append kinds [] n [] b h k = k
AreItems-append kinds [] n (x ∷ a) b h k = absurd h
AreItems-append kinds (i ∷ m) n [] b h k = absurd h
AreItems-append kinds (i ∷ m) n (x ∷ a) b h k = (h.0, AreItems-append kinds m n a b h.1 k)

pub adds_none : (b : ℕ) (block : Block) (old : List Item) → Adds b block old old
adds_none b block old = record { more = []; kinds = sym (append-nil old); known = All-nil (IsItemOf b block) }

pub adds_push : (b : ℕ) (block : Block) (first old : List Item) (item : Item) → Adds b block first old → IsItemOf b block item → Adds b block first (old ++ item ∷ [])
adds_push b block first old item h is = record {
  more = h.more ++ item ∷ [];
  kinds = ap (λ v. v ++ item ∷ []) h.kinds ∙ append_assoc first h.more (item ∷ []);
  known = All-push (IsItemOf b block) h.more item h.known is;
}

pub lays_none : (b : ℕ) (block : Block) (old : List Item) (before : List ℕ) → LaysMore b block old old before before []
lays_none b block old before first items h = subst (HasLaid b block first old before) (sym (append-nil items)) h

-- one item more
pub lays_push : (b : ℕ) (block : Block) (first old new : List Item) (before now after : List ℕ) (done : List Item) (item : Item) →
    LaysMore b block first old before now done → IsItemOf b block item → new ≡ old ++ item ∷ [] → after ≡ now ++ length old ∷ [] →
    LaysMore b block first new before after (done ++ item ∷ [])
lays_push b block first old new before now after done item h is e d start items k =
    let was = h start items k in
    let stands : AreItems (old ++ item ∷ []) (now ++ length old ∷ []) ((items ++ done) ++ item ∷ []) =
    AreItems-append (old ++ item ∷ []) now (length old ∷ []) (items ++ done) (item ∷ []) (AreItems-more old (item ∷ []) now (items ++ done) was.stands) (last_get old item, tt) in
    let laid : HasLaid b block start (old ++ item ∷ []) (now ++ length old ∷ []) ((items ++ done) ++ item ∷ []) = record { adds = adds_push b block start old item was.adds is; stands = stands } in
    let P : List Item → Type 0 = λ v. HasLaid b block start v after (items ++ (done ++ item ∷ [])) in
    let Q : List ℕ → Type 0 = λ v. HasLaid b block start (old ++ item ∷ []) v (items ++ (done ++ item ∷ [])) in
    subst P (sym e) (subst Q (sym d) (subst (HasLaid b block start (old ++ item ∷ []) (now ++ length old ∷ [])) (append_assoc items done (item ∷ [])) laid))

-- one instruction more
pub insts_from_more : (b j : ℕ) (insts : List inst.Inst) (k : ℕ) → k < length insts → insts_from b j (take (suc k) insts) ≡ insts_from b j (take k insts) ++ Inst (point_at b (j + k)) ∷ []
insts_from_more b j [] k lt = absurd (omega arith)
insts_from_more b j (x ∷ insts) zero lt = let e : j ≡ j + 0 = omega arith in ap (λ n. let v : List Item = Inst (point_at b n) ∷ [] in v) e
insts_from_more b j (x ∷ insts) (suc k) lt =
    let e : suc j + k ≡ j + suc k = omega arith in
    ap (λ v. Inst (point_at b j) ∷ v) (insts_from_more b (suc j) insts k (omega arith) ∙ ap (λ n. insts_from b (suc j) (take k insts) ++ Inst (point_at b n) ∷ []) e)

-- one edge more
pub edges_push : (kinds : List Item) (b i : ℕ) (edges : List edge.Edge) (e : edge.Edge) (flows : List EdgeFlow) → AreEdgesLaid kinds b (take i edges) flows →
    slice_get edges i ≡ Some e → length flows ≡ i →
    AreEdgesLaid (kinds ++ Edge (edge_id b i) ∷ []) b (take (suc i) edges) (flows ++ record { target = e.block.0; item = length kinds } ∷ [])
edges_push kinds b i edges e flows h there size = record {
  targets = map-append (λ (x : EdgeFlow). x.target) flows _ ∙ ap (λ v. v ++ e.block.0 ∷ []) h.targets
      ∙ sym (ap (map (λ (x : edge.Edge). x.block.0)) (take_one_more edges i e there) ∙ map-append (λ (x : edge.Edge). x.block.0) (take i edges) (e ∷ []));
  items = λ j x g. at j x (pushed_get flows (record { target = e.block.0; item = length kinds }) j x g);
}
  where
    at : (j : ℕ) (x : EdgeFlow) → (slice_get flows j ≡ Some x) ⊎ ((j ≡ length flows) × (record { target = e.block.0; item = length kinds } ≡ x))
        → slice_get (kinds ++ Edge (edge_id b i) ∷ []) x.item ≡ Some (Edge (edge_id b j))
    at j x (inl g) = kept_get kinds (Edge (edge_id b i) ∷ []) x.item (Edge (edge_id b j)) (h.items j x g)
    at j x (inr g) =
        let same : length kinds ≡ x.item = ap (λ (y : EdgeFlow). y.item) g.1 in
        let index : i ≡ j = omega arith in
        ap (slice_get (kinds ++ Edge (edge_id b i) ∷ [])) (sym same) ∙ last_get kinds (Edge (edge_id b i)) ∙ ap (λ n. Some (Edge (edge_id b n))) index

Adds-trans : (b : ℕ) (block : Block) (first mid last : List Item) → Adds b block first mid → Adds b block mid last → Adds b block first last
Adds-trans b block first mid last h k = record {
  more = h.more ++ k.more;
  kinds = k.kinds ∙ ap (λ v. v ++ k.more) h.kinds ∙ append_assoc first h.more k.more;
  known = All-append (IsItemOf b block) h.more k.more h.known k.known;
}

-- the three parts of a block's items, and then its edges
pub lays_block : (b : ℕ) (block : Block) (first entered passed left last : List Item) (one two three : List ℕ) (flows : List EdgeFlow) (index : ℕ) →
    LaysMore b block first entered [] one (entry_of b) → LaysMore b block entered passed one two (insts_from b 0 block.insts) →
    LaysMore b block passed left two three (exit_of (point_at b (length block.insts)) (ends_function block.terminator.op)) →
    Adds b block left last → AreEdgesLaid last b block.terminator.edges flows → index ≡ length block.insts →
    LaysBlock b block first last (record { items = three; edges = flows; last = index })
lays_block b block first entered passed left last one two three flows index h k m adds edges same =
    let start : HasLaid b block first first [] [] = record { adds = adds_none b block first; stands = tt } in
    let own = m first _ (k first _ (h first [] start)) in
    let whole : AreItems left three (own_items b block) =
    subst (AreItems left three) (append_assoc (entry_of b) (insts_from b 0 block.insts) (exit_of (point_at b (length block.insts)) (ends_function block.terminator.op))) own.stands in
    record {
      adds = Adds-trans b block first left last own.adds adds;
      laid = record {
        items = subst (λ (v : List Item). AreItems v three (own_items b block)) (sym adds.kinds) (AreItems-more left adds.more three (own_items b block) whole);
        edges = edges;
        last = same;
      };
    }
