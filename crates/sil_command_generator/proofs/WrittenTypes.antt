-- The types in the generated module are written as the grammar writes types.
use Rattle.std.proofs.Common.{◌≡◌, ◌∙◌, ℕ, ◌+◌, List, Bool, map, ap, sym}
use Rattle.sil_ast.specs.TypeName.{depth_of, depth_over, largest}
use Rattle.sil_ast.specs.declared.type_name.TypeName.{TypeName, TypeName-F, fold-roll-TypeName, out-TypeName, out-roll-TypeName}
use Rattle.sil_ast.specs.declared.type_name.TypeName.TheVariants as type
use Rattle.sil_ast.specs.declared.type_name.TypeName.TheVariants.{rolls-Int, rolls-Named, rolls-Optional, rolls-Tuple, rolls-Address}
use Rattle.numbered_form.specs.Names.{is_word}
use Rattle.numbered_form.specs.inner.Types.{is_plain_type, is_tuple, is_width, is_written}

pub out_int : (width : ℕ) → out-TypeName (type.Int width) ≡ TypeName-F.Int width
out_int width = ap out-TypeName (sym (rolls-Int width)) ∙ out-roll-TypeName (TypeName-F.Int width)

pub out_named : (name : List ℕ) → out-TypeName (type.Named name) ≡ TypeName-F.Named name
out_named name = ap out-TypeName (sym (rolls-Named name)) ∙ out-roll-TypeName (TypeName-F.Named name)

pub out_optional : (t : TypeName) → out-TypeName (type.Optional t) ≡ TypeName-F.Optional t
out_optional t = ap out-TypeName (sym (rolls-Optional t)) ∙ out-roll-TypeName (TypeName-F.Optional t)

pub out_tuple : (ts : List TypeName) → out-TypeName (type.Tuple ts) ≡ TypeName-F.Tuple ts
out_tuple ts = ap out-TypeName (sym (rolls-Tuple ts)) ∙ out-roll-TypeName (TypeName-F.Tuple ts)

pub out_address : (t : TypeName) → out-TypeName (type.Address t) ≡ TypeName-F.Address t
out_address t = ap out-TypeName (sym (rolls-Address t)) ∙ out-roll-TypeName (TypeName-F.Address t)

pub plain_int : (width : ℕ) → is_plain_type (type.Int width) ≡ is_width width
plain_int width = ap is_plain_type (sym (rolls-Int width)) ∙ fold-roll-TypeName Bool is_written (TypeName-F.Int width)

pub plain_named : (name : List ℕ) → is_plain_type (type.Named name) ≡ is_word name
plain_named name = ap is_plain_type (sym (rolls-Named name)) ∙ fold-roll-TypeName Bool is_written (TypeName-F.Named name)

pub plain_optional : (t : TypeName) → is_plain_type (type.Optional t) ≡ is_plain_type t
plain_optional t = ap is_plain_type (sym (rolls-Optional t)) ∙ fold-roll-TypeName Bool is_written (TypeName-F.Optional t)

pub plain_tuple : (ts : List TypeName) → is_plain_type (type.Tuple ts) ≡ is_tuple (map is_plain_type ts)
plain_tuple ts = ap is_plain_type (sym (rolls-Tuple ts)) ∙ fold-roll-TypeName Bool is_written (TypeName-F.Tuple ts)

pub depth_int : (width : ℕ) → depth_of (type.Int width) ≡ 1
depth_int width = ap depth_of (sym (rolls-Int width)) ∙ fold-roll-TypeName ℕ depth_over (TypeName-F.Int width)

pub depth_named : (name : List ℕ) → depth_of (type.Named name) ≡ 1
depth_named name = ap depth_of (sym (rolls-Named name)) ∙ fold-roll-TypeName ℕ depth_over (TypeName-F.Named name)

pub depth_optional : (t : TypeName) → depth_of (type.Optional t) ≡ 1 + depth_of t
depth_optional t = ap depth_of (sym (rolls-Optional t)) ∙ fold-roll-TypeName ℕ depth_over (TypeName-F.Optional t)

pub depth_tuple : (ts : List TypeName) → depth_of (type.Tuple ts) ≡ 1 + largest (map depth_of ts)
depth_tuple ts = ap depth_of (sym (rolls-Tuple ts)) ∙ fold-roll-TypeName ℕ depth_over (TypeName-F.Tuple ts)

pub depth_address : (t : TypeName) → depth_of (type.Address t) ≡ depth_of t
depth_address t = ap depth_of (sym (rolls-Address t)) ∙ fold-roll-TypeName ℕ depth_over (TypeName-F.Address t)

pub ruleset opened = (
  out_int,
  out_named,
  out_optional,
  out_tuple,
  out_address,
  plain_int,
  plain_named,
  plain_optional,
  plain_tuple,
  depth_int,
  depth_named,
  depth_optional,
  depth_tuple,
  depth_address,
)
