-- For any words and bytes, and whatever is handed out, one ending and one text are due.
use Rattle.std.specs.declared.alloc.Global.{Global}
use Rattle.std.proofs.Common.{◌≡◌, ◌⊎◌, inl, inr, ℕ, List, refl, sym, ap, subst, ◌∙◌, arith}
use Rattle.std.specs.Prelude.{String}
use Rattle.grove_calls.specs.declared.fault.Fault.{Fault}
use Rattle.grove_calls.specs.declared.ending.Ending.{Ending}
use Rattle.grove_calls.specs.declared.ending.Ending.TheVariants.{Done, Usage, Malformed, TooLong, Unfit, ReadFault, WriteFault, NoMemory}
use Rattle.grove_calls.specs.Rules.{Rules, AreOfNone}
use Rattle.grove_calls.specs.Due.{IsDue, IsCommandDue, malformed_text}

module _ {C H : Type 0} where
  -- a text has one answer, or one first fault, or is unfit
  pub record AreDecided (rules : Rules C H) : Type 0 where
    pub one_command : (words : List (String Global)) (command other : C) → rules.are_of command words → rules.are_of other words → command ≡ other
    pub one_answer : (command : C) (text : List ℕ) (handed : H) (x y : List ℕ) → rules.is_answer command text handed x → rules.is_answer command text handed y → x ≡ y
    pub one_fault : (command : C) (text : List ℕ) (m n : ℕ) (f g : Fault) → rules.is_first_fault command text m f → rules.is_first_fault command text n g → (m ≡ n) × (f ≡ g)
    pub answer_or_fault : (command : C) (text : List ℕ) (handed : H) (x : List ℕ) (line : ℕ) (fault : Fault) → rules.is_answer command text handed x → rules.is_first_fault command text line fault → ⊥
    pub answer_or_unfit : (command : C) (text : List ℕ) (handed : H) (x : List ℕ) → rules.is_answer command text handed x → rules.is_unfit command text → ⊥
    pub fault_or_unfit : (command : C) (text : List ℕ) (line : ℕ) (fault : Fault) → rules.is_first_fault command text line fault → rules.is_unfit command text → ⊥

malformed_alike : (m n : ℕ) (f g : Fault) → m ≡ n → f ≡ g → (Malformed m f ≡ Malformed n g) × (malformed_text m f ≡ malformed_text n g)
malformed_alike m n f g e d = (ap (λ k. Malformed k f) e ∙ ap (Malformed n) d, ap (λ k. malformed_text k f) e ∙ ap (malformed_text n) d)

module _ {C H : Type 0} (rules : Rules C H) (decided : AreDecided rules) where
  one_command_due : (command : C) (text : List ℕ) (handed : H) (x y : List ℕ) (s t : Ending) → IsCommandDue rules command text handed s x → IsCommandDue rules command text handed t y → (s ≡ t) × (x ≡ y)
  one_command_due command text handed x y Done Done a b = (refl, decided.one_answer command text handed x y a.1 b.1)
  one_command_due command text handed x y Done (Malformed n g) a b = absurd (decided.answer_or_fault command text handed x n g a.1 b.2)
  one_command_due command text handed x y Done Unfit a b = absurd (decided.answer_or_unfit command text handed x a.1 b.2)
  one_command_due command text handed x y Done TooLong a b = let short = a.0 in let long = b.1 in absurd (omega arith)
  one_command_due command text handed x y Done Usage a b = absurd b
  one_command_due command text handed x y Done ReadFault a b = absurd b
  one_command_due command text handed x y Done WriteFault a b = absurd b
  one_command_due command text handed x y Done NoMemory a b = absurd b
  one_command_due command text handed x y (Malformed m f) Done a b = absurd (decided.answer_or_fault command text handed y m f b.1 a.2)
  one_command_due command text handed x y (Malformed m f) (Malformed n g) a b =
      let both = decided.one_fault command text m n f g a.2 b.2 in
      let alike = malformed_alike m n f g both.0 both.1 in
      (alike.0, a.3 ∙ alike.1 ∙ sym b.3)
  one_command_due command text handed x y (Malformed m f) Unfit a b = absurd (decided.fault_or_unfit command text m f a.2 b.2)
  one_command_due command text handed x y (Malformed m f) TooLong a b = let short = a.1 in let long = b.1 in absurd (omega arith)
  one_command_due command text handed x y (Malformed m f) Usage a b = absurd b
  one_command_due command text handed x y (Malformed m f) ReadFault a b = absurd b
  one_command_due command text handed x y (Malformed m f) WriteFault a b = absurd b
  one_command_due command text handed x y (Malformed m f) NoMemory a b = absurd b
  one_command_due command text handed x y Unfit Done a b = absurd (decided.answer_or_unfit command text handed y b.1 a.2)
  one_command_due command text handed x y Unfit (Malformed n g) a b = absurd (decided.fault_or_unfit command text n g b.2 a.2)
  one_command_due command text handed x y Unfit Unfit a b = (refl, a.3 ∙ sym b.3)
  one_command_due command text handed x y Unfit TooLong a b = let short = a.1 in let long = b.1 in absurd (omega arith)
  one_command_due command text handed x y Unfit Usage a b = absurd b
  one_command_due command text handed x y Unfit ReadFault a b = absurd b
  one_command_due command text handed x y Unfit WriteFault a b = absurd b
  one_command_due command text handed x y Unfit NoMemory a b = absurd b
  one_command_due command text handed x y TooLong Done a b = let long = a.1 in let short = b.0 in absurd (omega arith)
  one_command_due command text handed x y TooLong (Malformed n g) a b = let long = a.1 in let short = b.1 in absurd (omega arith)
  one_command_due command text handed x y TooLong Unfit a b = let long = a.1 in let short = b.1 in absurd (omega arith)
  one_command_due command text handed x y TooLong TooLong a b = (refl, a.2 ∙ sym b.2)
  one_command_due command text handed x y TooLong Usage a b = absurd b
  one_command_due command text handed x y TooLong ReadFault a b = absurd b
  one_command_due command text handed x y TooLong WriteFault a b = absurd b
  one_command_due command text handed x y TooLong NoMemory a b = absurd b
  one_command_due command text handed x y Usage t a b = absurd a
  one_command_due command text handed x y ReadFault t a b = absurd a
  one_command_due command text handed x y WriteFault t a b = absurd a
  one_command_due command text handed x y NoMemory t a b = absurd a

module _ {C H : Type 0} where
  -- what is due is the usage line, or is due for a command
  abbrev pub Split : Rules C H → List (String Global) → List ℕ → H → Ending → List ℕ → Type 0
  Split rules words text handed ending due =
      ((ending ≡ Usage) × AreOfNone rules words × (due ≡ rules.usage)) ⊎ ((command : C) × rules.are_of command words × IsCommandDue rules command text handed ending due)

  pub due_split : (rules : Rules C H) (words : List (String Global)) (text : List ℕ) (handed : H) (due : List ℕ) (ending : Ending) → IsDue rules words text handed ending due → Split rules words text handed ending due
  due_split rules words text handed due Done h = inr h
  due_split rules words text handed due Usage h = inl (refl, h.0, h.2)
  due_split rules words text handed due (Malformed line fault) h = inr h
  due_split rules words text handed due TooLong h = inr h
  due_split rules words text handed due Unfit h = inr h
  due_split rules words text handed due ReadFault h = inr h
  due_split rules words text handed due WriteFault h = inr h
  due_split rules words text handed due NoMemory h = inr h

  one_due_by : (rules : Rules C H) → AreDecided rules → (words : List (String Global)) (text : List ℕ) (handed : H) (x y : List ℕ) (s t : Ending) → Split rules words text handed s x → Split rules words text handed t y → (s ≡ t) × (x ≡ y)
  one_due_by rules decided words text handed x y s t (inl a) (inl b) = (a.0 ∙ sym b.0, a.2 ∙ sym b.2)
  one_due_by rules decided words text handed x y s t (inl a) (inr b) = absurd (a.1 b.0 b.1)
  one_due_by rules decided words text handed x y s t (inr a) (inl b) = absurd (b.1 a.0 a.1)
  one_due_by rules decided words text handed x y s t (inr a) (inr b) =
      let same : a.0 ≡ b.0 = decided.one_command words a.0 b.0 a.1 b.1 in
      one_command_due rules decided b.0 text handed x y s t (subst (λ (c : C). IsCommandDue rules c text handed s x) same a.2) b.2

  pub one_due : (rules : Rules C H) → AreDecided rules → (words : List (String Global)) (text : List ℕ) (handed : H) (s t : Ending) (x y : List ℕ) → IsDue rules words text handed s x → IsDue rules words text handed t y → (s ≡ t) × (x ≡ y)
  one_due rules decided words text handed s t x y a b = one_due_by rules decided words text handed x y s t (due_split rules words text handed x s a) (due_split rules words text handed y t b)
