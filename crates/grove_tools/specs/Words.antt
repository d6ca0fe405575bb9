-- The words of the forms.
use Rattle.std.specs.declared.alloc.Global.{Global}
use Rattle.std.specs.Prelude.{String, ◌≡◌, ℕ, ◌<◌, ◌≤◌, ◌^◌, List, [], ◌∷◌, map, codes, decimal, string_bytes}
use Rattle.grove_tools.specs.declared.tool.Tool.{Tool}
use Rattle.grove_tools.specs.declared.tool.Tool.TheVariants.{Relay, Infer, Keep, Undo, Json}

abbrev pub words_of : Tool → List (List ℕ)
words_of (Relay senders) = codes "relay" ∷ decimal senders ∷ []
words_of Infer = codes "infer" ∷ []
words_of Keep = codes "keep" ∷ []
words_of (Undo author) = codes "undo" ∷ decimal author ∷ []
words_of Json = codes "json" ∷ []

-- how many senders a relay may have
abbrev pub most_senders : ℕ
most_senders = 8

-- the numbers of the form are in range
abbrev pub IsWithinLimits : Tool → Type 0
IsWithinLimits (Relay senders) = (1 ≤ senders) × (senders ≤ most_senders)
IsWithinLimits Infer = Unit {0}
IsWithinLimits Keep = Unit {0}
IsWithinLimits (Undo author) = (1 ≤ author) × (author < 2 ^ 32)
IsWithinLimits Json = Unit {0}

-- the words are those of the form
abbrev pub AreOf : Tool → List (String Global) → Type 0
AreOf tool words = (map string_bytes words ≡ words_of tool) × IsWithinLimits tool

-- the words are those of no form of one word
pub record AreOfNoWord (words : List (String Global)) : Type 0 where
  pub infer : AreOf Infer words → ⊥
  pub keep : AreOf Keep words → ⊥
  pub json : AreOf Json words → ⊥

-- and of none of a word and a number
pub record AreOfNoNumber (words : List (String Global)) : Type 0 where
  pub relay : (senders : ℕ) → AreOf (Relay senders) words → ⊥
  pub undo : (author : ℕ) → AreOf (Undo author) words → ⊥
