-- What views and terms as read stand for.
use Rattle.std.specs.Prelude.{◌≡◌, ℕ, List, Some, None, Option}
use Rattle.std.specs.Option.{option_map}
use Rattle.definitions.specs.Lists.{bind}
use Rattle.definitions.specs.Alg.{Alg}
use Rattle.definitions.specs.Systems.{Kind, parameter, variable, value, operation, not, and, or, equal, Term, Terms, node, none, more}
use Rattle.terms.specs.declared.view.View.{View}
use Rattle.terms.specs.declared.view.Kind.{Kind as ReadKind}
use Rattle.terms.specs.declared.view.Kind.TheVariants as kind
use Rattle.terms.specs.declared.view.Opening.{Opening}
use Rattle.terms.specs.declared.view.Parts.{Parts}
use Rattle.terms.specs.declared.view.Parts.TheVariants.{Zero, One, Two, Three}
use Rattle.terms.specs.declared.view.Term.{Term as Read}
use Rattle.terms.specs.declared.view.Term.TheVariants.{Parameter, Variable, Value, Operation, Not, And, Or, Equal}
use Rattle.terms.specs.Shapes.{standing}

abbrev pub kind_of : ReadKind → Kind
kind_of (kind.Parameter n) = parameter n
kind_of (kind.Variable n) = variable n
kind_of (kind.Value s v) = value s v
kind_of (kind.Operation o) = operation o
kind_of kind.Not = not
kind_of kind.And = and
kind_of kind.Or = or
kind_of kind.Equal = equal

-- what was read, with q behind it
abbrev pub reached : {A B : Type 0} → (A → B) → Option A → ℕ → Option (B × ℕ)
reached what None q = None
reached what (Some x) q = Some (what x, q)

abbrev pub kind_and_count : ReadKind × ℕ → Kind × ℕ
kind_and_count o = (kind_of o.0, o.1)

abbrev pub opening_of : Option Opening → Option ((Kind × ℕ) × ℕ)
opening_of None = None
opening_of (Some o) = Some ((kind_of o.kind, o.parts), o.next)

-- how many parts each kind has
abbrev pub Apt : Alg → ReadKind → ℕ → Type 0
Apt a (kind.Parameter n) m = m ≡ 0
Apt a (kind.Variable n) m = m ≡ 0
Apt a (kind.Value s v) m = m ≡ 0
Apt a (kind.Operation o) m = a.arity o ≡ Some m
Apt a kind.Not m = m ≡ 1
Apt a kind.And m = m ≡ 2
Apt a kind.Or m = m ≡ 2
Apt a kind.Equal m = m ≡ 2

-- the term at a view
abbrev pub shown : Alg → ℕ → View → Option Term
shown a d v = standing a d v.bytes.now v.at

abbrev pub cons : Option Term → Option Terms → Option Terms
cons o os = bind o (λ t. bind os (λ ts. Some (more t ts)))

abbrev pub parts_of : Alg → ℕ → Parts → Option Terms
parts_of a d Zero = Some none
parts_of a d (One x) = cons (shown a d x) (Some none)
parts_of a d (Two x y) = cons (shown a d x) (cons (shown a d y) (Some none))
parts_of a d (Three x y z) = cons (shown a d x) (cons (shown a d y) (cons (shown a d z) (Some none)))

-- a term as read, each part being the term of depth at most d at its view
abbrev pub term_of : Alg → ℕ → Read → Option Term
term_of a d (Parameter n) = Some (node (parameter n) none)
term_of a d (Variable n) = Some (node (variable n) none)
term_of a d (Value s v) = Some (node (value s v) none)
term_of a d (Operation o ps) = option_map (node (operation o)) (parts_of a d ps)
term_of a d (Not x) = option_map (node not) (parts_of a d (One x))
term_of a d (And x y) = option_map (node and) (parts_of a d (Two x y))
term_of a d (Or x y) = option_map (node or) (parts_of a d (Two x y))
term_of a d (Equal x y) = option_map (node equal) (parts_of a d (Two x y))

-- every view is of the file f
abbrev pub PartsIn : List ℕ → Parts → Type 0
PartsIn f Zero = Unit {0}
PartsIn f (One x) = x.bytes.now ≡ f
PartsIn f (Two x y) = (x.bytes.now ≡ f) × (y.bytes.now ≡ f)
PartsIn f (Three x y z) = (x.bytes.now ≡ f) × (y.bytes.now ≡ f) × (z.bytes.now ≡ f)

abbrev pub In : List ℕ → Read → Type 0
In f (Parameter n) = Unit {0}
In f (Variable n) = Unit {0}
In f (Value s v) = Unit {0}
In f (Operation o ps) = PartsIn f ps
In f (Not x) = x.bytes.now ≡ f
In f (And x y) = (x.bytes.now ≡ f) × (y.bytes.now ≡ f)
In f (Or x y) = (x.bytes.now ≡ f) × (y.bytes.now ≡ f)
In f (Equal x y) = (x.bytes.now ≡ f) × (y.bytes.now ≡ f)
