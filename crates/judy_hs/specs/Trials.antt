-- What a trial of a key as a new one tells.
use Rattle.judy_hs.specs.declared.trial.Trial.{Trial}
use Rattle.judy_hs.specs.declared.trial.Trial.TheVariants.{Added, Refused, Open}

module _ {S : Type 0} where
  -- Where the key was put in, what holds of where it stands.
  abbrev pub IfAdded : Trial S → (S → Type 0) → Type 0
  IfAdded (Added spot) Holds = Holds spot
  IfAdded Refused Holds = Unit {0}
  IfAdded Open Holds = Unit {0}

  -- What holds unless it was put in.
  abbrev pub UnlessAdded : Trial S → Type 0 → Type 0
  UnlessAdded (Added spot) Holds = Unit {0}
  UnlessAdded Refused Holds = Holds
  UnlessAdded Open Holds = Holds

  -- What holds where the trial showed that the key was absent.
  abbrev pub UnlessOpen : Trial S → Type 0 → Type 0
  UnlessOpen (Added spot) Holds = Holds
  UnlessOpen Refused Holds = Holds
  UnlessOpen Open Holds = Unit {0}

  -- What holds where the trial left that open.
  abbrev pub IfOpen : Trial S → Type 0 → Type 0
  IfOpen (Added spot) Holds = Unit {0}
  IfOpen Refused Holds = Unit {0}
  IfOpen Open Holds = Holds
