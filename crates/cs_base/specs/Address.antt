-- An address: the four bytes of an IPv4 address, and a port.
use Rattle.std.specs.Prelude.{◌≡◌, ℕ, ◌<◌, ◌^◌, List, length}
use Rattle.std.specs.List.{AllByRecursion}

pub record Address : Type 0 where
  pub ip : List ℕ
  pub port : ℕ

-- four bytes, and a port of 16 bits that isn't 0
pub record IsAddress (a : Address) : Type 0 where
  pub four : length a.ip ≡ 4
  pub bytes : AllByRecursion (λ b. b < 256) a.ip
  pub some_port : 0 < a.port
  pub port : a.port < 2 ^ 16
