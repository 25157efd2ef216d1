-- The type that a borrowed description of it stands for.
use Rattle.std.specs.Prelude.{Option}
use Rattle.std.specs.Option.{option_map}
use Rattle.c99_tree.specs.declared.types.CScalar.{CScalar}
use Rattle.c99_tree.specs.declared.types.CTy.{CTy}
use Rattle.c99_tree.specs.declared.types.CTy.TheVariants as ty
use Rattle.c99_tree.specs.declared.typing.Kind.{Kind}
use Rattle.c99_tree.specs.declared.typing.Kind.TheVariants as kind
use Rattle.c99_tree.specs.Typing.{scalar_type}

abbrev pub kind_type : Kind → CTy
kind_type (kind.Scalar t) = ty.Scalar t
kind_type (kind.Struct x) = ty.Struct x.now
kind_type (kind.Array x n) = ty.Array x.now n

abbrev pub option_type : Option Kind → Option CTy
option_type o = option_map kind_type o

-- the scalar type that it stands for, if it is one
abbrev pub scalar_kind : Option Kind → Option CScalar
scalar_kind o = scalar_type (option_type o)
