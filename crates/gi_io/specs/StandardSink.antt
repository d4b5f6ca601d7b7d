-- What is known of a file or a standard stream that is written.
use Rattle.std.specs.Prelude.{ℕ, Bool}

pub record StandardSink : Type 0 where
  pub faults : ℕ
  pub created : Bool
