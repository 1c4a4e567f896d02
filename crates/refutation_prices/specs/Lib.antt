-- The prices of a refutation judged.
pub mod PricesJudged
pub mod RulePrices
