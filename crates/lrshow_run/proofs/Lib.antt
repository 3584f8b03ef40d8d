pub mod PageShown
