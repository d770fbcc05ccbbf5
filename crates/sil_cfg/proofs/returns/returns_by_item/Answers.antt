use Rattle.std.proofs.Common.{◌≡◌, ◌≢◌, ◌+◌, ◌<◌, ℕ, Bool, false, List, [], ◌∷◌, ◌++◌, length, sym, ap, ◌∙◌, ◌⊎◌, inl, inr, Some, arith}
use Rattle.std.specs.Prelude.{slice_index_or, unwrap_or, slice_get}
use Rattle.std.proofs.lemmas.Bool.{cases_eq}
use Rattle.std.proofs.lemmas.Option.{same_Some, slice_get_within, unwrap_or-slice_get, slice_get-get_or}
use Rattle.sil_ast.specs.declared.function.Function.{Function}
use Rattle.sil_cfg.proofs.Gets.{kept_get, last_get, length_push}
use Rattle.sil_cfg.specs.Layout.{Layout, item_at}
use Rattle.sil_cfg.specs.declared.item.Item.{Item}
use Rattle.sil_cfg.specs.Returns.{is_return}
use Rattle.sil_cfg.proofs.returns.returns_by_item.Goals as goal

kept : (flags : List Bool) (x : Bool) (k : ℕ) → k < length flags → slice_index_or (flags ++ x ∷ []) k false ≡ slice_index_or flags k false
kept flags x k lt =
    sym (unwrap_or-slice_get (flags ++ x ∷ []) k false) ∙ ap (λ o. unwrap_or o false) (kept_get flags (x ∷ []) k (slice_index_or flags k false) (slice_get-get_or flags k false lt))

last : (flags : List Bool) (x : Bool) (k : ℕ) → k ≡ length flags → slice_index_or (flags ++ x ∷ []) k false ≡ x
last flags x k e = sym (unwrap_or-slice_get (flags ++ x ∷ []) k false) ∙ ap (λ o. unwrap_or o false) (ap (slice_get (flags ++ x ∷ [])) e ∙ last_get flags x)

one_more : (g : Layout) (f : Function) (flags : List Bool) (x : Bool) (n : ℕ) (here : Item) → length flags ≡ n → item_at g n ≡ Some here → x ≡ is_return f here →
    ((k : ℕ) (item : Item) → k < n → item_at g k ≡ Some item → slice_index_or flags k false ≡ is_return f item) → (k : ℕ) (item : Item) → k < n + 1 → item_at g k ≡ Some item
    → slice_index_or (flags ++ x ∷ []) k false ≡ is_return f item
one_more g f flags x n here size is this h k item lt e = at (cases_eq k n)
  where
    at : (k ≡ n) ⊎ (k ≢ n) → slice_index_or (flags ++ x ∷ []) k false ≡ is_return f item
    at (inl same) = last flags x k (same ∙ sym size) ∙ this ∙ ap (is_return f) (same_Some here item (sym is ∙ ap (item_at g) (sym same) ∙ e))
    at (inr ne) = kept flags x k (omega arith) ∙ h k item (omega arith) e

pub loop-i-preserved : goal.loop-i-preserved
loop-i-preserved c =
    let new : c.push.new.self.items ≡ c.loop-i.returns.items ++ c.is_return.result ∷ [] = c.in_ok-push.ensures.items in
    record {
      size = ap length new ∙ length_push c.loop-i.returns.items c.is_return.result ∙ ap (λ n. n + 1) c.loop-i.invariant.size;
      returns = λ n item lt e. ap (λ (v : List Bool). slice_index_or v n false) new ∙
          one_more c.args.g.now c.args.f.now c.loop-i.returns.items c.is_return.result c.loop-i.i c.item.result c.loop-i.invariant.size c.item.ensures c.is_return.ensures
          c.loop-i.invariant.returns n item lt e;
    }

pub returns : goal.returns
returns c = λ i item e.
    let within : i < length c.args.g.now.kinds = slice_get_within c.args.g.now.kinds i item e in
    c.loop-i.invariant.returns i item (omega arith) e
