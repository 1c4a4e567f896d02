-- The merged model: a model and blocks give a model, and what the call that reduces answers.
pub mod definitions
