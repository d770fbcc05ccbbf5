-- An exact result in a width, told by what it is in 64 bits.
use Rattle.std.proofs.Common.{◌≡◌, ℕ, ◌<◌, ◌≤◌, eq-eqb, refl, sym, ap, ◌∙◌, arith, SFits, w64, ℤ, pos, to_z, of_z, nat_eq, [], ◌∷◌}
use Rattle.std.proofs.lemmas.Bool.{eqb-true}
use Rattle.std.proofs.lemmas.Int.{to_z-of_z}
use Rattle.std.specs.Prelude.{negsuc, Bool, true, false, not, ◌||◌}
use Rattle.instruction_table.specs.declared.builtin_names.names.Width.{Width}
use Rattle.instruction_table.specs.declared.builtin_names.names.Width.TheVariants as width
use Rattle.count_machine_model.specs.holder_model.Builtins.{bit, signed}
use Rattle.count_machine_model.specs.MachineSteps.Computing.{overflow_leaves}
use Rattle.numbered_form.specs.inner.Literals.{is_residue}
use Rattle.holder_model_values.specs.declared.run_values.leaf.Leaf.TheVariants as leaf
use Rattle.count_heap.specs.sil_types.Typing.Builtins.{bits}
use Rattle.count_machine_leaves.proofs.LeafWindows.Residues.{HasModulus, back_same, is_within, one_bit, eight_bits, sixteen_bits, thirty_two_bits, sixty_four_bits, same_back, signed_twice}
use Rattle.count_machine_leaves.proofs.LeafWindows.Residues.{within_negsuc}
use Rattle.count_machine_leaves.proofs.LeafWindows.Residues.{within_pos, negsuc_within, pos_within, half, whole}

pub width_has : (w : Width) → (h : ℕ) × (m : ℕ) × HasModulus (bits w) h m
width_has width.Int1 = (1, 2, one_bit)
width_has width.Int8 = (128, 256, eight_bits)
width_has width.Int16 = (32768, 65536, sixteen_bits)
width_has width.Int32 = (2147483648, 4294967296, thirty_two_bits)
width_has width.Int64 = (half, whole, sixty_four_bits)

within_more : (h k : ℕ) (n : ℤ) → 0 < h → h ≤ k → is_within h n ≡ true → is_within k n ≡ true
within_more h k (pos a) s le w = pos_within k a (omega (arith, within_pos h a w))
within_more h k (negsuc a) s le w = negsuc_within k a (omega (arith, within_negsuc h a s w))

not_back : {b c : Bool} → b ≡ not c → c ≡ not b
not_back {b} {c} e = elim c as (λ (d : Bool). b ≡ not d → d ≡ not b) [ true ↦ λ f. ap not (sym f) | false ↦ λ f. ap not (sym f) ] e

module _ (w h m : ℕ) (it : HasModulus w h m) (n low short : ℤ) (fits : SFits w64 low) (fits' : SFits w64 short)
    (low_is : low ≡ signed 64 n) (short_is : short ≡ signed w low) where
  -- where it isn't in the range of 64 bits, it isn't in that of fewer
  not_in_fewer : (b : Bool) → is_residue w n ≡ b → is_residue 64 n ≡ false → b ≡ false
  not_in_fewer false e f = refl
  not_in_fewer true e f =
      let here : is_within h n ≡ true = sym (it.within_is n) ∙ e in
      sym (within_more h half n it.some it.most here) ∙ sym (sixty_four_bits.within_is n) ∙ f

  -- where it is, it is its own residue of 64 bits
  low_same : is_residue 64 n ≡ true → low ≡ n
  low_same e = low_is ∙ sixty_four_bits.signed_is n
      ∙ back_same half whole n refl (omega arith) (sym (sixty_four_bits.within_is n) ∙ e)

  short_same : is_residue w n ≡ true → signed w n ≡ n
  short_same e = it.signed_is n ∙ back_same h m n it.double it.some (sym (it.within_is n) ∙ e)

  same_short : signed w n ≡ n → is_residue w n ≡ true
  same_short e = it.within_is n ∙ same_back h m n it.double it.some (sym (it.signed_is n) ∙ e)

  same_z : nat_eq (of_z w64 short) (of_z w64 low) ≡ true → short ≡ low
  same_z e =
      sym (to_z-of_z w64 short fits') ∙ ap (to_z w64) (eqb-true (of_z w64 short) (of_z w64 low) e) ∙ to_z-of_z w64 low fits

  by_equal : (b : Bool) → is_residue w n ≡ b → (same : Bool) → nat_eq (of_z w64 short) (of_z w64 low) ≡ same → low ≡ n → same ≡ b
  by_equal true e same f g =
      let alike : short ≡ low = short_is ∙ ap (signed w) g ∙ short_same e ∙ sym g in
      sym f ∙ eq-eqb (of_z w64 short) (of_z w64 low) (ap (of_z w64) alike)
  by_equal false e false f g = refl
  by_equal false e true f g =
      let alike : signed w n ≡ n = ap (signed w) (sym g) ∙ sym short_is ∙ same_z f ∙ g in
      sym (same_short alike) ∙ e

  pub told : (lost : Bool) → lost ≡ not (is_residue 64 n) → lost || not (nat_eq (of_z w64 short) (of_z w64 low)) ≡ not (is_residue w n)
  told true e = ap not (sym (not_in_fewer (is_residue w n) refl (not_back e)))
  told false e = ap not (by_equal (is_residue w n) refl _ refl (low_same (not_back e)))

  pub leaves_told : (lost wide : Bool) (bits : ℤ) → lost ≡ not (is_residue 64 n) → wide ≡ lost || not (nat_eq (of_z w64 short) (of_z w64 low)) →
      bits ≡ bit wide → leaf.Int short ∷ leaf.Int bits ∷ [] ≡ overflow_leaves w n
  leaves_told lost wide bits e f g =
      let first : short ≡ signed w n = short_is ∙ ap (signed w) low_is ∙ signed_twice w h m it n in
      let second : bits ≡ bit (not (is_residue w n)) = g ∙ ap bit (f ∙ told lost e) in
      ap (λ (z : ℤ). leaf.Int z ∷ leaf.Int bits ∷ []) first ∙ ap (λ (z : ℤ). leaf.Int (signed w n) ∷ leaf.Int z ∷ []) second
