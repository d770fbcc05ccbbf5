-- What is shown on a function's graph, by numbers of items, is shown on the function.
use Rattle.std.proofs.Common.{◌≡◌, ℕ, List, [], ◌∷◌, ◌++◌, refl, sym, ap, ap₂, ◌∙◌, subst, Some}
use Rattle.std.specs.Prelude.{flat_map}
use Rattle.std.specs.List.{slice_get}
use Rattle.std.proofs.lemmas.Option.{same_Some}
use Rattle.sil_ast.specs.declared.place.EdgeId.{EdgeId}
use Rattle.sil_ast.specs.declared.function.Function.{Function}
use Rattle.sil_cfg.specs.declared.item.Item.{Item}
use Rattle.sil_cfg.specs.Layout.{Layout, item_at}
use Rattle.sil_cfg.specs.Flow.{numbered}
use Rattle.sil_cfg.specs.Items.{flow_of}
use Rattle.sil_cfg.specs.inner.Build.{AreItems, IsGraphOf}
use Rattle.sil_cfg.specs.Walk.{IsTrail}
use Rattle.sil_cfg.proofs.GraphTrails.{trail_there, trail_back}
use Rattle.reach_engine_marks.specs.PathPatterns.Lawful.{FirstBreak}
use Rattle.reach_engine_marks.specs.PathPatterns.Along.{Shows}
use Rattle.reach_engine_marks.specs.PathPatterns.inner.Reads.{AgreesWith}

record SplitItems (kinds : List Item) (m n : List ℕ) (items : List Item) : Type 0 where
  front : List Item
  rest : List Item
  parts : items ≡ front ++ rest
  fronts : AreItems kinds m front
  rests : AreItems kinds n rest

split_items : (kinds : List Item) (m n : List ℕ) (items : List Item) → AreItems kinds (m ++ n) items → SplitItems kinds m n items
split_items kinds [] n items h = record { front = []; rest = items; parts = refl; fronts = tt; rests = h }
split_items kinds (i ∷ m) n [] h = absurd h
split_items kinds (i ∷ m) n (x ∷ items) h =
    let r = split_items kinds m n items h.1 in
    record { front = x ∷ r.front; rest = r.rest; parts = ap (λ v. x ∷ v) r.parts; fronts = (h.0, r.fronts); rests = r.rests }

record SplitNumbers (kinds : List Item) (numbers : List ℕ) (a b : List Item) : Type 0 where
  front : List ℕ
  rest : List ℕ
  parts : numbers ≡ front ++ rest
  fronts : AreItems kinds front a
  rests : AreItems kinds rest b

split_numbers : (kinds : List Item) (numbers : List ℕ) (a b : List Item) → AreItems kinds numbers (a ++ b) → SplitNumbers kinds numbers a b
split_numbers kinds numbers [] b h = record { front = []; rest = numbers; parts = refl; fronts = tt; rests = h }
split_numbers kinds [] (x ∷ a) b h = absurd h
split_numbers kinds (i ∷ numbers) (x ∷ a) b h =
    let r = split_numbers kinds numbers a b h.1 in
    record { front = i ∷ r.front; rest = r.rest; parts = ap (λ v. i ∷ v) r.parts; fronts = (h.0, r.fronts); rests = r.rests }

one_item : (kinds : List Item) (i : ℕ) (item : Item) (rest : List Item) → AreItems kinds (i ∷ []) rest → slice_get kinds i ≡ Some item → rest ≡ item ∷ []
one_item kinds i item [] h e = absurd h
one_item kinds i item (x ∷ []) h e = ap (λ v. v ∷ []) (same_Some x item (sym h.0 ∙ e))
one_item kinds i item (x ∷ (y ∷ rest)) h e = absurd h.1

one_number : (kinds : List Item) (numbers : List ℕ) (item : Item) → AreItems kinds numbers (item ∷ []) → (i : ℕ) × (numbers ≡ i ∷ []) × (slice_get kinds i ≡ Some item)
one_number kinds [] item h = absurd h
one_number kinds (i ∷ []) item h = (i, refl, h.0)
one_number kinds (i ∷ (j ∷ numbers)) item h = absurd h.1

module _ {M : Type 0} (g : Layout) (f : Function) (is : IsGraphOf g f) (numbers : ℕ → List M) (items : Item → List M) (agrees : AgreesWith g numbers items)
    (InPlace : List M → M → Type 0) (code_of : M → ℕ) where
  marks_same : (trail : List ℕ) (its : List Item) → AreItems g.kinds trail its → flat_map numbers trail ≡ flat_map items its
  marks_same [] [] h = refl
  marks_same [] (x ∷ its) h = absurd h
  marks_same (i ∷ trail) [] h = absurd h
  marks_same (i ∷ trail) (x ∷ its) h = ap₂ (λ u v. u ++ v) (agrees i x h.0) (marks_same trail its h.1)

  pub shown_there : (w : List EdgeId) (code i : ℕ) (item : Item) → item_at g i ≡ Some item → Shows (numbered g) numbers InPlace code_of w code i → Shows (flow_of f) items InPlace code_of w code item
  shown_there w code i item e h =
      let r = trail_there g f is w (h.before ++ i ∷ []) h.trail in
      let parts = split_items g.kinds h.before (i ∷ []) r.0 r.1 in
      let last : parts.rest ≡ item ∷ [] = one_item g.kinds i item parts.rest parts.rests e in
      let whole : r.0 ≡ parts.front ++ item ∷ [] = parts.parts ∙ ap (λ v. parts.front ++ v) last in
      let before : flat_map numbers h.before ≡ flat_map items parts.front = marks_same h.before parts.front parts.fronts in
      let P : List M → Type 0 = λ v. FirstBreak InPlace code_of v (items item) code in
      let Q : List M → Type 0 = λ v. FirstBreak InPlace code_of (flat_map numbers h.before) v code in
      record { before = parts.front; trail = subst (IsTrail (flow_of f) w) whole r.2; breaks = subst P before (subst Q (agrees i item e) h.breaks) }

  pub shown_back : (w : List EdgeId) (code : ℕ) (item : Item) → Shows (flow_of f) items InPlace code_of w code item
      → (i : ℕ) × (item_at g i ≡ Some item) × Shows (numbered g) numbers InPlace code_of w code i
  shown_back w code item h =
      let r = trail_back g f is w (h.before ++ item ∷ []) h.trail in
      let parts = split_numbers g.kinds r.0 h.before (item ∷ []) r.1 in
      let last = one_number g.kinds parts.rest item parts.rests in
      let whole : r.0 ≡ parts.front ++ last.0 ∷ [] = parts.parts ∙ ap (λ v. parts.front ++ v) last.1 in
      let before : flat_map numbers parts.front ≡ flat_map items h.before = marks_same parts.front h.before parts.fronts in
      let P : List M → Type 0 = λ v. FirstBreak InPlace code_of v (numbers last.0) code in
      let Q : List M → Type 0 = λ v. FirstBreak InPlace code_of (flat_map items h.before) v code in (
        last.0,
        last.2,
        record { before = parts.front; trail = subst (IsTrail (numbered g) w) whole r.2; breaks = subst P (sym before) (subst Q (sym (agrees last.0 item last.2)) h.breaks) },
      )
