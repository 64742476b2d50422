-- Lists that only grow at their beginning.
use Rattle.std.proofs.Common.{◌≡◌, List, [], ◌∷◌, ◌++◌, sym, ap, ◌∙◌, append-nil, append_assoc}

module _ {A : Type 0} where
  abbrev pub GrewFrom : List A → List A → Type 0
  GrewFrom base done = (own : List A) × (done ≡ own ++ base)

  pub grew_on : (base more done : List A) → GrewFrom base done → GrewFrom base (more ++ done)
  grew_on base more done (own, is) = (more ++ own, ap (λ z. more ++ z) is ∙ sym (append_assoc more own base))

  pub grew_far : (base middle done : List A) → GrewFrom base middle → GrewFrom middle done → GrewFrom base done
  grew_far base middle done (own, is) (more, far) = (more ++ own, far ∙ ap (λ z. more ++ z) is ∙ sym (append_assoc more own base))

  none_behind : (own base : List A) → [] ≡ own ++ base → base ≡ []
  none_behind [] base e = sym e
  none_behind (a ∷ own) base e = absurd cc

  -- what grew to nothing was nothing
  pub grew_none : (base done : List A) → GrewFrom base [] → GrewFrom base done
  grew_none base done (own, is) = (done, sym (append-nil done) ∙ ap (λ z. done ++ z) (sym (none_behind own base is)))
