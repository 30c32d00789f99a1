-- What contracts see of a gateway over TCP; this project's profile.
use Rattle.std.specs.Prelude.{ℕ, List, refl}
use Rattle.std.specs.Coded.{Coded, code_by, coded×, coded_list, coded_ℕ}
use Rattle.etcd_records.specs.contracts.exchange.Exchange as exchange
use Rattle.etcd_records.specs.declared.exchange.Exchange.{Exchange}

-- the addresses, the place among them of the one that the next post goes to, and what was posted and what came of it
pub record Posts : Type 0 where
  pub addresses : List (List ℕ)
  pub place : ℕ
  pub exchanges : List Exchange

abbrev pub posts_code : Coded Posts
posts_code =
    code_by (List (List ℕ) × (ℕ × List Exchange))
    (coded× (coded_list (coded_list coded_ℕ)) (coded× coded_ℕ (coded_list exchange.the_row.coded)))
    (λ posts. (posts.addresses, (posts.place, posts.exchanges)))
    (λ p. record { addresses = p.0; place = p.1.0; exchanges = p.1.1 }) (λ _. refl)
