-- Lists whose elements have something by their numbers, built one by one.
use Rattle.std.proofs.Common.{◌≡◌, ℕ, ◌+◌, ◌<◌, List, [], ◌∷◌, ◌++◌, length, get_or, refl, sym, ap, ◌∙◌, subst, Bool, true, Some}
use Rattle.std.specs.Prelude.{slice_get}
use Rattle.std.proofs.lemmas.List.{length-append}
use Rattle.std.proofs.lemmas.Option.{slice_get-get_or}
use Rattle.sil_ast.specs.declared.function.Function.{Function}
use Rattle.sil_ast.specs.declared.module.Module.{Module}
use Rattle.sil_types_declarations.specs.TypeDefinitions.Declarations.{declarations_of}
use Rattle.count_machine_layouts.specs.declared.frame_layouts.layout.Layout.{Layout}
use Rattle.count_machine_layouts.specs.FrameLayouts.inner.Laid.{ByNumber, IsLaid}
use Rattle.count_machine_layouts.specs.FrameLayouts.inner.Layouts.{layout_of}
use Rattle.count_machine_layouts.proofs.FrameLayouts.Lists.{each_more}

module _ {A : Type 0} (Has : ℕ → A → Type 0) where
  pub numbers_begun : (xs : List A) → xs ≡ [] → ByNumber Has 0 xs
  numbers_begun xs is = subst (ByNumber Has 0) (sym is) (record { all = refl; each = λ n x at. absurd (cc) })

  pub numbers_more : (n : ℕ) (xs more : List A) (x : A) → ByNumber Has n xs → more ≡ xs ++ x ∷ [] → Has n x → ByNumber Has (n + 1) more
  numbers_more n xs more x so_far is own = subst (ByNumber Has (n + 1)) (sym is) (record {
    all = length-append xs (x ∷ []) ∙ ap (λ k. k + 1) so_far.all;
    each = each_more xs x Has so_far.each (subst (λ k. Has k x) (sym so_far.all) own);
  })

  pub numbers_done : {B : Type 0} (n : ℕ) (items all : List B) (xs : List A) → n ≡ length items → items ≡ all → ByNumber Has n xs → ByNumber Has (length all) xs
  numbers_done {B} n items all xs done same so_far = subst (λ k. ByNumber Has k xs) (done ∙ ap (λ (ys : List B). length ys) same) so_far

-- the function at a number has its layout, if it is reached
pub laid_at : (m : Module) (reached : List Bool) (n : ℕ) (f : Function) (layout : Layout) → slice_get m.functions n ≡ Some f
    → (slice_get reached n ≡ Some true → layout ≡ layout_of (declarations_of m) f) → IsLaid m reached n layout
laid_at m reached n f layout at own g marked there =
    let both : Some f ≡ Some g = sym at ∙ there in
    let same : f ≡ g = cc in
    own marked ∙ ap (layout_of (declarations_of m)) same

-- what a reached function's place among the layouts has
pub laid_there : (m : Module) (reached : List Bool) (layouts : List Layout) (n : ℕ) (f : Function) (d : Layout) → ByNumber (IsLaid m reached) (length m.functions) layouts
    → slice_get reached n ≡ Some true → slice_get m.functions n ≡ Some f → n < length layouts → get_or layouts n d ≡ layout_of (declarations_of m) f
laid_there m reached layouts n f d laid marked there lt = laid.each n (get_or layouts n d) (slice_get-get_or layouts n d lt) f marked there
